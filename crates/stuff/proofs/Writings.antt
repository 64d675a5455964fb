-- How the steps of writing files leave the ports: the files of a command are opened one after another, and then written one after another.
use Rattle.std.proofs.Common.{Bool, zero, suc, ◌≡◌, ◌≢◌, ◌⊎◌, inl, inr, ◌+◌, ◌<◌, ◌≤◌, ℕ, List, [], ◌∷◌, true, false, refl, ap, sym, ◌∙◌, subst, arith}
use Rattle.std.specs.Prelude.{IsTrue, if◌then◌else◌, Result, Ok, Err}
use Rattle.std.proofs.lemmas.Bool.{cases_order, lt-ltb, le-ltb, eq-eqb, ne_eqb}
use Rattle.std.proofs.KnownBytes.{Appends-nil}
use Rattle.std.specs.Io.KnownBytes.{Appends}
use Rattle.formats.specs.declared.Port.{Port}
use Rattle.formats.specs.declared.Port.TheVariants.{Node, Ele, Report, Trouble, Face, Neigh}
use Rattle.formats.specs.declared.Status.{Status}
use Rattle.formats.specs.declared.Status.TheVariants.{Done, WriteFault, NoMemory}
use Rattle.st_base.specs.Desk.{PortState, IsFile, SamePort, AppendsPart}
use Rattle.stuff.specs.Ports.{Stage, Opening, Writing, BeforeReport, WritingReport, Finished, EndsAt, LacksMemoryAt, Extent, Untouched, Unopened, Empty, Part, Whole, among, around, extent_at, is_among, turn, IsOpened, HoldsPart, HoldsAll, FileAt, HasNoFault, PortsEnd}
use Rattle.stuff.specs.Writing.{AreOpened, AreWritten, IsBroken, IsWritten, Puts, Reaches, Reports, Stands}
use Rattle.stuff.proofs.PortEnds.{file_later, not_report, not_trouble, tells_none, tells_one, untouched_file}

-- ---- turns

-- the port whose turn it is
port_at : ℕ → Port
port_at zero = Node
port_at (suc zero) = Ele
port_at (suc (suc zero)) = Face
port_at (suc (suc (suc zero))) = Neigh
port_at (suc (suc (suc (suc zero)))) = Report
port_at (suc (suc (suc (suc (suc n))))) = Trouble

port_again : (p : Port) → port_at (turn p) ≡ p
unfolding port_at
port_again Node = refl
port_again Ele = refl
port_again Report = refl
port_again Trouble = refl
port_again Face = refl
port_again Neigh = refl

-- each port has a turn of its own
one_turn : (p q : Port) → turn p ≡ turn q → p ≡ q
one_turn p q e = sym (port_again p) ∙ (ap port_at e ∙ port_again q)

pub same_or_not : (q p : Port) → (p ≡ q) ⊎ (p ≢ q)
same_or_not q p = elim (cases_order (turn p) (turn q)) [
  | inl e ↦ inl (one_turn p q e)
  | inr other ↦ inr (λ e. elim other [ inl lt ↦ omega (arith, lt, ap turn e) | inr lt ↦ omega (arith, lt, ap turn e) ])
]

-- ---- extents by turns

earlier : (n : ℕ) (b h a : Extent) (p : Port) → turn p < n → around n b h a p ≡ b
earlier n b h a p lt = rw (lt-ltb (turn p) n lt) refl

at_turn : (n : ℕ) (b h a : Extent) (p : Port) → turn p ≡ n → around n b h a p ≡ h
at_turn n b h a p e = rw (le-ltb (turn p) n (omega (arith, e)), eq-eqb (turn p) n e) refl

later : (n : ℕ) (b h a : Extent) (p : Port) → n < turn p → around n b h a p ≡ a
later n b h a p lt = rw (le-ltb (turn p) n (omega (arith, lt)), ne_eqb (turn p) n (λ e. omega (arith, e, lt))) refl

-- the extents of the others do not hang on that of the one whose turn it is
others_as : (q : Port) (b h x a : Extent) (p : Port) → p ≢ q → around (turn q) b x a p ≡ around (turn q) b h a p
others_as q b h x a p ne = elim (cases_order (turn p) (turn q)) [
  | inl e ↦ absurd (ne (one_turn p q e))
  | inr (inl lt) ↦ earlier (turn q) b x a p lt ∙ sym (earlier (turn q) b h a p lt)
  | inr (inr lt) ↦ later (turn q) b x a p lt ∙ sym (later (turn q) b h a p lt)
]

-- the next turn
next_turn : (n : ℕ) (b a : Extent) (p : Port) → around (1 + n) b a a p ≡ around n b b a p
next_turn n b a p = elim (cases_order (turn p) n) [
  | inl e ↦ earlier (1 + n) b a a p (omega (arith, e)) ∙ sym (at_turn n b b a p e)
  | inr (inl lt) ↦ earlier (1 + n) b a a p (omega (arith, lt)) ∙ sym (earlier n b b a p lt)
  | inr (inr lt) ↦ elim (cases_order (turn p) (1 + n)) [
    | inl e ↦ at_turn (1 + n) b a a p e ∙ sym (later n b b a p lt)
    | inr (inl less) ↦ absurd (omega (arith, lt, less))
    | inr (inr more) ↦ later (1 + n) b a a p more ∙ sym (later n b b a p lt)
  ]
]

first_turn : (b a : Extent) (p : Port) → around 0 b a a p ≡ a
first_turn b a p = elim (cases_order (turn p) 0) [
  | inl e ↦ at_turn 0 b a a p e
  | inr (inl lt) ↦ absurd (omega (arith, lt))
  | inr (inr lt) ↦ later 0 b a a p lt
]

-- ---- ends that a turn shows

fault_at : (q : Port) (files : List Port) (stage : Stage) → IsFile q → IsTrue (is_among files q) → (stage ≡ Opening q) ⊎ (stage ≡ Writing q) → EndsAt (WriteFault q) files stage
fault_at Node files stage f m at = (m, at)
fault_at Ele files stage f m at = (m, at)
fault_at Report files stage f m at = absurd f
fault_at Trouble files stage f m at = absurd f
fault_at Face files stage f m at = (m, at)
fault_at Neigh files stage f m at = (m, at)

lacks_at : (q : Port) (files : List Port) → IsTrue (is_among files q) → LacksMemoryAt files (Writing q)
lacks_at q [] m = cc
lacks_at q (file ∷ files) m = inr (inl (q, m, refl))

lacks_before_report : (q : Port) (files : List Port) → IsTrue (is_among files q) → LacksMemoryAt files BeforeReport
lacks_before_report q [] m = cc
lacks_before_report q (file ∷ files) m = inr (inr refl)

abbrev faults_of : PortState → ℕ
faults_of p = p.faults

module _ {D : Type 0} (ports : D → Port → PortState) (files : List Port) (name : Port → List ℕ) (IsText : Port → List ℕ → Type 0) (before : D) where
  abbrev Files : (Port → Extent) → D → Type 0
  Files extent now = (p : Port) → IsFile p → FileAt ports p (among files extent p) (name p) (IsText p) before now

  abbrev Stand : (Port → Extent) → D → Type 0
  Stand extent now = Stands ports files extent name IsText before now

  abbrev Ends : Status → D → Type 0
  Ends status now = PortsEnd ports status files name IsText before now

  -- the same extents of the files
  in_other_words : (old new : Port → Extent) (now : D) → ((p : Port) → IsTrue (is_among files p) → new p ≡ old p) → Files old now → Files new now
  in_other_words old new now same h p f = go (is_among files p) refl
    where
      go : (b : Bool) → is_among files p ≡ b → FileAt ports p (among files new p) (name p) (IsText p) before now
      go true e = subst (λ (x : Extent). FileAt ports p x (name p) (IsText p) before now) (rw e (sym (same p e))) (h p f)
      go false e = subst (λ (x : Extent). FileAt ports p x (name p) (IsText p) before now) (rw e refl) (h p f)

  -- one file has changed
  one_changed : (q : Port) (old new : Port → Extent) (from now : D) → IsTrue (is_among files q) → ((p : Port) → p ≢ q → new p ≡ old p) → ((p : Port) → p ≢ q → ports now p ≡ ports from p)
      → FileAt ports q (new q) (name q) (IsText q) before now → Files old from → Files new now
  one_changed q old new from now m same others at h p f = elim (same_or_not q p) [
    | inl e ↦ subst (λ (x : Port). FileAt ports x (among files new x) (name x) (IsText x) before now) (sym e) (rw m at)
    | inr ne ↦ subst (λ (x : Extent). FileAt ports p (if is_among files p then x else Untouched) (name p) (IsText p) before now) (sym (same p ne))
        (file_later ports p (among files old p) (name p) (IsText p) before from now (others p ne) (h p f))
  ]

  -- what is known of the file whose turn it is
  at_its_turn : (q : Port) (b h a : Extent) (now : D) → IsFile q → IsTrue (is_among files q) → Files (around (turn q) b h a) now → FileAt ports q h (name q) (IsText q) before now
  at_its_turn q b h a now f m is = subst (λ (x : Extent). FileAt ports q x (name q) (IsText q) before now) (rw m (at_turn (turn q) b h a q refl)) (is q f)

  -- no other port has a fault
  others_none : (q : Port) (from now : D) → ((p : Port) → p ≢ q → ports now p ≡ ports from p) → HasNoFault (ports from) → (p : Port) → p ≢ Trouble → p ≢ q → (ports now p).faults ≡ 0
  others_none q from now others z p t ne = ap faults_of (others p ne) ∙ z p t

  all_none : (q : Port) (from now : D) → ((p : Port) → p ≢ q → ports now p ≡ ports from p) → HasNoFault (ports from) → (ports now q).faults ≡ 0 → HasNoFault (ports now)
  all_none q from now others z clean p t = elim (same_or_not q p) [
    | inl e ↦ subst (λ (x : Port). (ports now x).faults ≡ 0) (sym e) clean
    | inr ne ↦ others_none q from now others z p t ne
  ]

  report_same : (q : Port) (from now : D) → IsFile q → ((p : Port) → p ≢ q → ports now p ≡ ports from p) → ports from Report ≡ ports before Report → ports now Report ≡ ports before Report
  report_same q from now f others same = others Report (λ e. not_report q f (sym e)) ∙ same

  -- ---- opening

  pub nothing_opened : HasNoFault (ports before) → AreOpened ports files 0 name IsText before before
  nothing_opened z = record {
    file = λ p f. subst (λ (x : Extent). FileAt ports p (if is_among files p then x else Untouched) (name p) (IsText p) before before) (sym (first_turn Empty Untouched p)) (untouched_file ports (is_among files p) p (name p) (IsText p) before before refl);
    report = refl;
    none = z;
  }

  pub one_opened : (q : Port) (from now : D) → IsFile q → IsTrue (is_among files q) → IsOpened (ports now q) (name q) → (ports now q).faults ≡ 0 → ((p : Port) → p ≢ q → ports now p ≡ ports from p)
      → AreOpened ports files (turn q) name IsText before from → AreOpened ports files (1 + turn q) name IsText before now
  one_opened q from now f m opened clean others h = record {
    file =
        in_other_words (around (turn q) Empty Empty Untouched) (around (1 + turn q) Empty Untouched Untouched) now (λ p is. next_turn (turn q) Empty Untouched p)
        (one_changed q (around (turn q) Empty Untouched Untouched) (around (turn q) Empty Empty Untouched) from now m (others_as q Empty Untouched Empty Untouched) others
        (subst (λ (x : Extent). FileAt ports q x (name q) (IsText q) before now) (sym (at_turn (turn q) Empty Empty Untouched q refl)) opened) h.file);
    report = report_same q from now f others h.report;
    none = all_none q from now others h.none clean;
  }

  pub not_opened : (q : Port) (from now : D) → IsFile q → IsTrue (is_among files q) → SamePort (ports from q) (ports now q) → 0 < (ports now q).faults → ((p : Port) → p ≢ q → ports now p ≡ ports from p)
      → AreOpened ports files (turn q) name IsText before from → Ends (WriteFault q) now
  not_opened q from now f m same lt others h = record {
    stage = Opening q;
    at = fault_at q files (Opening q) f m (inl refl);
    file =
        one_changed q (around (turn q) Empty Untouched Untouched) (extent_at (Opening q)) from now m (others_as q Empty Untouched Unopened Untouched) others
        (subst (λ (x : Extent). FileAt ports q x (name q) (IsText q) before now) (sym (at_turn (turn q) Empty Unopened Untouched q refl))
        (subst (λ (s : PortState). SamePort s (ports now q)) (at_its_turn q Empty Untouched Untouched from f m h.file) same)) h.file;
    report = report_same q from now f others h.report;
    faults = tells_one ports q now (same_or_not q) lt (others_none q from now others h.none);
  }

  pub all_opened : (n : ℕ) (now : D) → ((p : Port) → IsTrue (is_among files p) → turn p < n) → AreOpened ports files n name IsText before now → AreWritten ports files 0 name IsText before now
  all_opened n now lt h = record {
    file = in_other_words (around n Empty Untouched Untouched) (around 0 Whole Empty Empty) now (λ p m. first_turn Whole Empty p ∙ sym (earlier n Empty Untouched Untouched p (lt p m))) h.file;
    report = h.report;
    none = h.none;
  }

  -- ---- writing

  module _ (q : Port) (text : List ℕ) (f : IsFile q) (m : IsTrue (is_among files q)) (is : (t : List ℕ) → IsText q t → t ≡ text) (from now : D) (others : (p : Port) → p ≢ q → ports now p ≡ ports from p)
      (h : AreWritten ports files (turn q) name IsText before from) where
    was_opened : IsOpened (ports from q) (name q)
    was_opened = at_its_turn q Whole Empty Empty from f m h.file

    -- a file was written and finished
    pub one_written : IsWritten (ports from q) (ports now q) text → AreWritten ports files (1 + turn q) name IsText before now
    one_written w = record {
      file =
          in_other_words (around (turn q) Whole Whole Empty) (around (1 + turn q) Whole Empty Empty) now (λ p is. next_turn (turn q) Whole Empty p)
          (one_changed q (around (turn q) Whole Empty Empty) (around (turn q) Whole Whole Empty) from now m (others_as q Whole Empty Whole Empty) others
          (subst (λ (x : Extent). FileAt ports q x (name q) (IsText q) before now) (sym (at_turn (turn q) Whole Whole Empty q refl)) whole) h.file);
      report = report_same q from now f others h.report;
      none = all_none q from now others h.none w.faults;
    }
      where
        whole : HoldsAll ports q (name q) (IsText q) now
        whole = record {
          opened = from;
          begins = was_opened;
          named = w.named;
          all = λ t e. subst (λ (u : List ℕ). Appends (ports from q).text (ports now q).text u) (sym (is t e)) w.all;
          closed = w.closed;
        }

    -- a file was not written, or in part
    pub not_written : (status : Status) → IsBroken status q (ports from q) (ports now q) text → Ends status now
    not_written status w = go w.cause
      where
        part : HoldsPart ports q (name q) (IsText q) now
        part = record {
          opened = from;
          begins = was_opened;
          named = w.named;
          part = λ t e. subst (λ (u : List ℕ). AppendsPart (ports from q).text (ports now q).text u) (sym (is t e)) w.part;
        }

        held : Files (extent_at (Writing q)) now
        held =
            one_changed q (around (turn q) Whole Empty Empty) (extent_at (Writing q)) from now m (others_as q Whole Empty Part Empty) others
            (subst (λ (x : Extent). FileAt ports q x (name q) (IsText q) before now) (sym (at_turn (turn q) Whole Part Empty q refl)) part) h.file

        go : ((status ≡ WriteFault q) × (0 < (ports now q).faults)) ⊎ ((status ≡ NoMemory) × ((ports now q).faults ≡ 0)) → Ends status now
        go (inl (e, lt)) =
            subst (λ (s : Status). Ends s now) (sym e)
            (record {
              stage = Writing q;
              at = fault_at q files (Writing q) f m (inr refl);
              file = held;
              report = report_same q from now f others h.report;
              faults = tells_one ports q now (same_or_not q) lt (others_none q from now others h.none);
            })
        go (inr (e, clean)) =
            subst (λ (s : Status). Ends s now) (sym e)
            (record {
              stage = Writing q;
              at = lacks_at q files m;
              file = held;
              report = report_same q from now f others h.report;
              faults = tells_none ports NoMemory now (λ p k. cc) (all_none q from now others h.none clean);
            })

  -- nothing was written of a file, since there was no memory
  pub nothing_written : (q : Port) (text : List ℕ) (f : IsFile q) (m : IsTrue (is_among files q)) (is : (t : List ℕ) → IsText q t → t ≡ text) (now : D) → AreWritten ports files (turn q) name IsText before now → Ends NoMemory now
  nothing_written q text f m is now h = not_written q text f m is now now (λ p ne. refl) h NoMemory (record { part = (0, omega arith, Appends-nil (ports now q).text); named = refl; cause = inr (refl, h.none q (not_trouble q f)) })

  -- a file was written, or was not
  pub one_put : {T : Type 0} (r : Result T Status) (q : Port) (text : List ℕ) (f : IsFile q) (m : IsTrue (is_among files q)) (is : (t : List ℕ) → IsText q t → t ≡ text) (from now : D) (others : (p : Port) → p ≢ q → ports now p ≡ ports from p)
      → AreWritten ports files (turn q) name IsText before from → Puts r q (ports from q) (ports now q) text → Reaches r ports files (1 + turn q) name IsText before now
  one_put (Ok x) q text f m is from now others h w = one_written q text f m is from now others h w
  one_put (Err status) q text f m is from now others h w = not_written q text f m is from now others h status w

  -- a file whose turn has not come is open
  pub still_open : (n : ℕ) (q : Port) (now : D) → IsFile q → IsTrue (is_among files q) → n ≤ turn q → AreWritten ports files n name IsText before now → (ports now q).is_open ≡ true
  still_open n q now f m le h = opened.0
    where
      empty : (n ≡ turn q) ⊎ ((n < turn q) ⊎ (turn q < n)) → around n Whole Empty Empty q ≡ Empty
      empty (inl e) = at_turn n Whole Empty Empty q (sym e)
      empty (inr (inl lt)) = later n Whole Empty Empty q lt
      empty (inr (inr lt)) = absurd (omega (arith, le, lt))

      still : around n Whole Empty Empty q ≡ Empty → among files (around n Whole Empty Empty) q ≡ Empty
      still e = rw m e

      opened : IsOpened (ports now q) (name q)
      opened = subst (λ (x : Extent). FileAt ports q x (name q) (IsText q) before now) (still (empty (cases_order n (turn q)))) (h.file q f)

  -- ---- the report

  module _ (n : ℕ) (from : D) (last : (p : Port) → IsTrue (is_among files p) → turn p < n) (h : AreWritten ports files n name IsText before from) where
    all_whole : Files (λ p. Whole) from
    all_whole = in_other_words (around n Whole Empty Empty) (λ p. Whole) from (λ p m. sym (earlier n Whole Empty Empty p (last p m))) h.file

    -- there was no memory for it
    pub no_report : (q : Port) → IsTrue (is_among files q) → Ends NoMemory from
    no_report q m = record {
      stage = BeforeReport;
      at = lacks_before_report q files m;
      file = all_whole;
      report = h.report;
      faults = tells_none ports NoMemory from (λ p k. cc) h.none;
    }

    module _ (text : List ℕ) (is : (t : List ℕ) → IsText Report t → t ≡ text) (now : D) (others : (p : Port) → p ≢ Report → ports now p ≡ ports from p) where
      still_whole : Files (λ p. Whole) now
      still_whole p f = file_later ports p (among files (λ q. Whole) p) (name p) (IsText p) before from now (others p (not_report p f)) (all_whole p f)

      pub reported : (status : Status) → Reports status (ports from Report) (ports now Report) text → Ends status now
      reported status (inl (e, all, clean)) =
          subst (λ (s : Status). Ends s now) (sym e)
          (record {
            stage = Finished;
            at = refl;
            file = still_whole;
            report = λ t u. subst (λ (s : PortState). Appends s.text (ports now Report).text t) h.report (subst (λ (x : List ℕ). Appends (ports from Report).text (ports now Report).text x) (sym (is t u)) all);
            faults = tells_none ports Done now (λ p k. cc) (all_none Report from now others h.none clean);
          })
      reported status (inr (e, part, lt)) =
          subst (λ (s : Status). Ends s now) (sym e)
          (record {
            stage = WritingReport;
            at = refl;
            file = still_whole;
            report = λ t u. subst (λ (s : PortState). AppendsPart s.text (ports now Report).text t) h.report (subst (λ (x : List ℕ). AppendsPart (ports from Report).text (ports now Report).text x) (sym (is t u)) part);
            faults = tells_one ports Report now (same_or_not Report) lt (others_none Report from now others h.none);
          })
