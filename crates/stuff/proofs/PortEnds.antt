-- How commands leave the ports.
use Rattle.std.proofs.Common.{Bool, ◌≡◌, ◌≢◌, ◌⊎◌, inl, inr, ◌<◌, ℕ, List, [], ◌∷◌, Option, true, false, refl, ap, sym, ◌∙◌, subst, arith}
use Rattle.std.specs.Prelude.{if◌then◌else◌}
use Rattle.std.specs.Io.KnownBytes.{Appends}
use Rattle.formats.specs.declared.Port.{Port}
use Rattle.formats.specs.declared.Port.TheVariants.{Node, Ele, Report, Trouble, Face, Neigh}
use Rattle.formats.specs.declared.Status.{Status}
use Rattle.formats.specs.declared.Status.TheVariants.{Done, BadWords, BadHeader, Unsupported, TooLarge, Truncated, ReadFault, WriteFault, NoMemory, TooManyTets, BadMesh, NotSound}
use Rattle.st_base.specs.Desk.{InputState, IsStart, PortState, IsFile, SamePort, AppendsPart}
use Rattle.stuff.specs.Ports.{Stage, Reading, WritingReport, Finished, EndsAt, LacksMemoryAt, Extent, Untouched, Unopened, Empty, Part, Whole, among, extent_at, is_among, report_extent, IsOpened, FileAt, HasNoFault, ReportAt, TellsFault, PortsEnd, HasWritten}
use Rattle.stuff.specs.Ends.{LeavesPorts}
use Rattle.stuff.specs.Writing.{Reports}

abbrev faults_of : PortState → ℕ
faults_of p = p.faults

-- a file is not where trouble is told, nor Report
pub not_trouble : (p : Port) → IsFile p → p ≢ Trouble
not_trouble Node f e = cc
not_trouble Ele f e = cc
not_trouble Report f e = absurd f
not_trouble Trouble f e = absurd f
not_trouble Face f e = cc
not_trouble Neigh f e = cc

pub not_report : (p : Port) → IsFile p → p ≢ Report
not_report Node f e = cc
not_report Ele f e = cc
not_report Report f e = absurd f
not_report Trouble f e = absurd f
not_report Face f e = cc
not_report Neigh f e = cc

-- where memory ran out
only_reading_lacks : (files : List Port) → LacksMemoryAt files Reading
only_reading_lacks [] = refl
only_reading_lacks (f ∷ files) = inl refl

pub no_memory_reading : (files : List Port) → EndsAt NoMemory files Reading
no_memory_reading files = only_reading_lacks files

module _ {D : Type 0} (ports : D → Port → PortState) where
  -- a desk on which nothing was done has none
  pub start_none : (input : InputState) (tried : Option (List (List ℕ))) (d : D) → IsStart input (ports d) tried → HasNoFault (ports d)
  start_none input tried d start Node t = start.node.faults
  start_none input tried d start Ele t = start.ele.faults
  start_none input tried d start Report t = start.report.faults
  start_none input tried d start Trouble t = absurd (t refl)
  start_none input tried d start Face t = start.face.faults
  start_none input tried d start Neigh t = start.neigh.faults

  pub tells_none : (status : Status) (d : D) → ((p : Port) → status ≢ WriteFault p) → HasNoFault (ports d) → (p : Port) → p ≢ Trouble → TellsFault status p (ports d p)
  tells_none status d ne z p t = (λ e. absurd (ne p e), λ lt. absurd (omega (arith, lt, z p t)))

  -- one port has a fault, which the status tells
  pub tells_one : (q : Port) (d : D) → ((p : Port) → (p ≡ q) ⊎ (p ≢ q)) → 0 < (ports d q).faults → ((p : Port) → p ≢ Trouble → p ≢ q → (ports d p).faults ≡ 0) → (p : Port) → p ≢ Trouble → TellsFault (WriteFault q) p (ports d p)
  tells_one q d same lt z p t = go (same p)
    where
      go : (p ≡ q) ⊎ (p ≢ q) → TellsFault (WriteFault q) p (ports d p)
      go (inl e) = subst (λ (x : Port). TellsFault (WriteFault q) x (ports d x)) (sym e) (λ f. lt, λ f. refl)
      go (inr ne) = (λ f. absurd (ne (let g : q ≡ p = cc in sym g)), λ k. absurd (omega (arith, k, z p t ne)))

  -- ---- ends at which no port was used

  not_a_write_fault : (status : Status) (files : List Port) → EndsAt status files Reading → (p : Port) → status ≢ WriteFault p
  not_a_write_fault Done files at p e = cc
  not_a_write_fault (BadWords place) files at p e = cc
  not_a_write_fault (BadHeader fault) files at p e = cc
  not_a_write_fault (Unsupported key) files at p e = cc
  not_a_write_fault (TooLarge padded) files at p e = cc
  not_a_write_fault (Truncated got wanted) files at p e = cc
  not_a_write_fault ReadFault files at p e = cc
  not_a_write_fault (WriteFault Node) files (m, inl a) p e = cc
  not_a_write_fault (WriteFault Node) files (m, inr a) p e = cc
  not_a_write_fault (WriteFault Ele) files (m, inl a) p e = cc
  not_a_write_fault (WriteFault Ele) files (m, inr a) p e = cc
  not_a_write_fault (WriteFault Face) files (m, inl a) p e = cc
  not_a_write_fault (WriteFault Face) files (m, inr a) p e = cc
  not_a_write_fault (WriteFault Neigh) files (m, inl a) p e = cc
  not_a_write_fault (WriteFault Neigh) files (m, inr a) p e = cc
  not_a_write_fault (WriteFault Report) files at p e = cc
  not_a_write_fault (WriteFault Trouble) files at p e = absurd at
  not_a_write_fault NoMemory files at p e = cc
  not_a_write_fault (TooManyTets tets) files at p e = cc
  not_a_write_fault (BadMesh file fault) files at p e = cc
  not_a_write_fault (NotSound verdict) files at p e = cc

  -- a file that was left, whether it is among a command's or not
  pub untouched_file : (b : Bool) (p : Port) (name : List ℕ) (IsText : List ℕ → Type 0) (before after : D) → ports after p ≡ ports before p → FileAt ports p (if b then Untouched else Untouched) name IsText before after
  untouched_file true p name IsText before after same = same
  untouched_file false p name IsText before after same = same

  pub untouched : (status : Status) (files : List Port) (name : Port → List ℕ) (IsText : Port → List ℕ → Type 0) (before after : D) → EndsAt status files Reading → ((p : Port) → p ≢ Trouble → ports after p ≡ ports before p) → HasNoFault (ports before)
      → PortsEnd ports status files name IsText before after
  untouched status files name IsText before after at same z = record {
    stage = Reading;
    at = at;
    file = λ p f. untouched_file (is_among files p) p (name p) (IsText p) before after (same p (not_trouble p f));
    report = same Report (λ e. cc);
    faults = tells_none status after (not_a_write_fault status files at) (λ p t. ap faults_of (same p t) ∙ z p t);
  }

  -- a text was written to Report alone, or was not
  pub reports : (status : Status) (name : Port → List ℕ) (IsText : Port → List ℕ → Type 0) (written : List ℕ) (before after : D) → ((text : List ℕ) → IsText Report text → text ≡ written)
      → Reports status (ports before Report) (ports after Report) written → ((p : Port) → p ≢ Report → ports after p ≡ ports before p) → HasNoFault (ports before) → PortsEnd ports status [] name IsText before after
  reports status name IsText written before after is (inl (e, all, none)) same z =
      subst (λ (s : Status). PortsEnd ports s [] name IsText before after) (sym e)
      (record {
        stage = Finished;
        at = refl;
        file = λ p f. same p (not_report p f);
        report = λ text t. subst (λ (u : List ℕ). Appends (ports before Report).text (ports after Report).text u) (sym (is text t)) all;
        faults = tells_none Done after (λ p q. cc) (still_none none);
      })
    where
      still_none : (ports after Report).faults ≡ 0 → HasNoFault (ports after)
      still_none n Node t = ap faults_of (same Node (λ q. cc)) ∙ z Node t
      still_none n Ele t = ap faults_of (same Ele (λ q. cc)) ∙ z Ele t
      still_none n Report t = n
      still_none n Trouble t = absurd (t refl)
      still_none n Face t = ap faults_of (same Face (λ q. cc)) ∙ z Face t
      still_none n Neigh t = ap faults_of (same Neigh (λ q. cc)) ∙ z Neigh t
  reports status name IsText written before after is (inr (e, part, lt)) same z =
      subst (λ (s : Status). PortsEnd ports s [] name IsText before after) (sym e)
      (record {
        stage = WritingReport;
        at = refl;
        file = λ p f. same p (not_report p f);
        report = λ text t. subst (λ (u : List ℕ). AppendsPart (ports before Report).text (ports after Report).text u) (sym (is text t)) part;
        faults = tells_one Report after report_or_not lt (λ p t ne. ap faults_of (same p ne) ∙ z p t);
      })
    where
      report_or_not : (p : Port) → (p ≡ Report) ⊎ (p ≢ Report)
      report_or_not Node = inr (λ q. cc)
      report_or_not Ele = inr (λ q. cc)
      report_or_not Report = inl refl
      report_or_not Trouble = inr (λ q. cc)
      report_or_not Face = inr (λ q. cc)
      report_or_not Neigh = inr (λ q. cc)

  -- ---- the same end in other words

  file_along : (p : Port) (extent : Extent) (name : List ℕ) (P Q : List ℕ → Type 0) (before start after : D) → ((text : List ℕ) → Q text → P text) → ports before p ≡ ports start p → FileAt ports p extent name P before after → FileAt ports p extent name Q start after
  file_along p Untouched name P Q before start after f same h = h ∙ same
  file_along p Unopened name P Q before start after f same h = subst (λ (s : PortState). SamePort s (ports after p)) same h
  file_along p Empty name P Q before start after f same h = h
  file_along p Part name P Q before start after f same h = record { opened = h.opened; begins = h.begins; named = h.named; part = λ text q. h.part text (f text q) }
  file_along p Whole name P Q before start after f same h = record { opened = h.opened; begins = h.begins; named = h.named; all = λ text q. h.all text (f text q); closed = h.closed }

  report_along : (extent : Extent) (P Q : List ℕ → Type 0) (before start after : PortState) → ((text : List ℕ) → Q text → P text) → before ≡ start → ReportAt extent P before after → ReportAt extent Q start after
  report_along Untouched P Q before start after f same h = h ∙ same
  report_along Unopened P Q before start after f same h = h ∙ same
  report_along Empty P Q before start after f same h = h ∙ same
  report_along Part P Q before start after f same h = λ text q. subst (λ (s : PortState). AppendsPart s.text after.text text) same (h text (f text q))
  report_along Whole P Q before start after f same h = λ text q. subst (λ (s : PortState). Appends s.text after.text text) same (h text (f text q))

  pub ends_along : (status : Status) (files : List Port) (name : Port → List ℕ) (P Q : Port → List ℕ → Type 0) (before start after : D) → ((p : Port) (text : List ℕ) → Q p text → P p text) → ((p : Port) → ports before p ≡ ports start p)
      → PortsEnd ports status files name P before after → PortsEnd ports status files name Q start after
  ends_along status files name P Q before start after f same e = record {
    stage = e.stage;
    at = e.at;
    file = λ p i. file_along p (among files (extent_at e.stage) p) (name p) (P p) (Q p) before start after (f p) (same p) (e.file p i);
    report = report_along (report_extent e.stage) (P Report) (Q Report) (ports before Report) (ports start Report) (ports after Report) (f Report) (same Report) e.report;
    faults = e.faults;
  }

  -- ---- what comes after an end leaves it

  pub file_later : (p : Port) (extent : Extent) (name : List ℕ) (IsText : List ℕ → Type 0) (before after later : D) → ports later p ≡ ports after p → FileAt ports p extent name IsText before after → FileAt ports p extent name IsText before later
  file_later p Untouched name IsText before after later same h = same ∙ h
  file_later p Unopened name IsText before after later same h = subst (λ (s : PortState). SamePort (ports before p) s) (sym same) h
  file_later p Empty name IsText before after later same h = subst (λ (s : PortState). IsOpened s name) (sym same) h
  file_later p Part name IsText before after later same h = record {
    opened = h.opened;
    begins = h.begins;
    named = ap (λ (s : PortState). s.name) same ∙ h.named;
    part = λ t e. subst (λ (s : PortState). AppendsPart (ports h.opened p).text s.text t) (sym same) (h.part t e);
  }
  file_later p Whole name IsText before after later same h = record {
    opened = h.opened;
    begins = h.begins;
    named = ap (λ (s : PortState). s.name) same ∙ h.named;
    all = λ t e. subst (λ (s : PortState). Appends (ports h.opened p).text s.text t) (sym same) (h.all t e);
    closed = ap (λ (s : PortState). s.is_open) same ∙ h.closed;
  }

  pub ends_later : (status : Status) (files : List Port) (name : Port → List ℕ) (IsText : Port → List ℕ → Type 0) (before after later : D) → ((p : Port) → p ≢ Trouble → ports later p ≡ ports after p)
      → PortsEnd ports status files name IsText before after → PortsEnd ports status files name IsText before later
  ends_later status files name IsText before after later same e = record {
    stage = e.stage;
    at = e.at;
    file = λ p f. file_later p (among files (extent_at e.stage) p) (name p) (IsText p) before after later (same p (not_trouble p f)) (e.file p f);
    report = subst (λ (s : PortState). ReportAt (report_extent e.stage) (IsText Report) (ports before Report) s) (sym (same Report (λ q. cc))) e.report;
    faults = λ p t. subst (λ (s : PortState). TellsFault status p s) (sym (same p t)) (e.faults p t);
  }

  -- a command that used no port left all of them
  only_read : (status : Status) (files : List Port) (stage : Stage) → LeavesPorts status → EndsAt status files stage → stage ≡ Reading
  only_read Done files stage left at = absurd left
  only_read (BadWords place) files stage left at = at
  only_read (BadHeader fault) files stage left at = at
  only_read (Unsupported key) files stage left at = at
  only_read (TooLarge padded) files stage left at = at
  only_read (Truncated got wanted) files stage left at = at
  only_read ReadFault files stage left at = at
  only_read (WriteFault p) files stage left at = absurd left
  only_read NoMemory files stage left at = absurd left
  only_read (TooManyTets tets) files stage left at = at
  only_read (BadMesh file fault) files stage left at = at
  only_read (NotSound verdict) files stage left at = at

  file_left : (b : Bool) (p : Port) (name : List ℕ) (IsText : List ℕ → Type 0) (before after : D) → FileAt ports p (if b then Untouched else Untouched) name IsText before after → ports after p ≡ ports before p
  file_left true p name IsText before after h = h
  file_left false p name IsText before after h = h

  pub ports_left : (status : Status) (files : List Port) (name : Port → List ℕ) (IsText : Port → List ℕ → Type 0) (before after : D) → LeavesPorts status → PortsEnd ports status files name IsText before after → (p : Port) → p ≢ Trouble → ports after p ≡ ports before p
  ports_left status files name IsText before after left e = go
    where
      reading : e.stage ≡ Reading
      reading = only_read status files e.stage left e.at

      file : (p : Port) → IsFile p → ports after p ≡ ports before p
      file p f = file_left (is_among files p) p (name p) (IsText p) before after (subst (λ (s : Stage). FileAt ports p (among files (extent_at s) p) (name p) (IsText p) before after) reading (e.file p f))

      go : (p : Port) → p ≢ Trouble → ports after p ≡ ports before p
      go Node t = file Node tt
      go Ele t = file Ele tt
      go Report t = subst (λ (s : Stage). ReportAt (report_extent s) (IsText Report) (ports before Report) (ports after Report)) reading e.report
      go Trouble t = absurd (t refl)
      go Face t = file Face tt
      go Neigh t = file Neigh tt

  -- a command that was carried out has written all
  pub has_written : (status : Status) (files : List Port) (name : Port → List ℕ) (IsText : Port → List ℕ → Type 0) (before after : D) → status ≡ Done → PortsEnd ports status files name IsText before after → HasWritten ports files name IsText before after
  has_written status files name IsText before after done e =
      let finished : e.stage ≡ Finished = subst (λ (s : Status). EndsAt s files e.stage) done e.at in
      record {
        file = λ p f. subst (λ (s : Stage). FileAt ports p (among files (extent_at s) p) (name p) (IsText p) before after) finished (e.file p f);
        report = subst (λ (s : Stage). ReportAt (report_extent s) (IsText Report) (ports before Report) (ports after Report)) finished e.report;
      }

  pub not_in_trouble : (status : Status) (files : List Port) (name : Port → List ℕ) (IsText : Port → List ℕ → Type 0) (before after : D) → PortsEnd ports status files name IsText before after → status ≢ WriteFault Trouble
  not_in_trouble status files name IsText before after e same = subst (λ (s : Status). EndsAt s files e.stage) same e.at

  -- no port has a fault that the status tells, where no port has one
  pub no_write_fault : (status : Status) (files : List Port) (name : Port → List ℕ) (IsText : Port → List ℕ → Type 0) (before after : D) → PortsEnd ports status files name IsText before after
      → HasNoFault (ports after) → (p : Port) → status ≢ WriteFault p
  no_write_fault status files name IsText before after h none p e = let lt = (h.faults p not).0 e in omega (arith, none p not, lt)
    where
      not : p ≢ Trouble
      not t = not_in_trouble status files name IsText before after h (e ∙ ap WriteFault t)
