-- Rounds of which the last is made and not yet written.
use Rattle.std.proofs.Common.{◌≡◌, ℕ, ◌+◌, ◌<◌, ◌≤◌, List, [], ◌++◌, length, Option, append-nil, ap, subst, sym, ◌∙◌}
use Rattle.std.specs.Prelude.{OnOk, Result, Ok, Err, flat_map}
use Rattle.std.specs.List.{range_with_len}
use Rattle.std.specs.Io.KnownBytes.{Appends}
use Rattle.std.proofs.KnownBytes.{Appends-trans}
use Rattle.definitions.specs.Layout.{slabs}
use Rattle.formats.specs.declared.Port.{Port}
use Rattle.node_ele_write.specs.declared.PutFault.{PutFault}
use Rattle.node_ele_write.specs.declared.PutFault.TheVariants.{NoMemory, WriteFault}
use Rattle.st_base.specs.Desk.{AppendsPart}
use Rattle.st_base.specs.declared.desk.Desk.{Ghosts}
use Rattle.slab_emit.specs.declared.Lines.{Lines}
use Rattle.slab_emit.specs.declared.Part.{Part}
use Rattle.slab_emit.specs.Parts.{AreParts}
use Rattle.slab_emit.specs.Sources.{SourceValue, slab_lines}
use Rattle.mesh_rounds.specs.declared.Reached.{Reached}
use Rattle.mesh_rounds.specs.Puts.{PutsText}
use Rattle.mesh_rounds.specs.Rounds.{all_lines, text_of}
use Rattle.mesh_rounds.proofs.AllRounds.{all_slabs, broke, front_part, parts_text, slabs_then}

-- the first slabs are written, and these parts are those behind them, up to what is reached
pub record IsPending (lines : Lines) (s : SourceValue) (before now : Option (List ℕ)) (ps : List Part) (r : Reached) : Type 0 where
  pub done : ℕ
  pub parts : AreParts lines s done ps
  pub first : r.first ≡ done + length ps
  pub text : Appends before now (flat_map (slab_lines lines s) (range_with_len 0 done))

-- a text that is written whole
pub whole_part : (a b : Option (List ℕ)) (xs : List ℕ) → Appends a b xs → AppendsPart a b xs
whole_part a b xs h = subst (λ (t : List ℕ). AppendsPart a b t) (append-nil xs) (front_part a b xs [] h)

-- it is, and then memory runs out
pub then_no_memory : {S T U : Type 0} (desk : Ghosts S) (port : Port) (a b : S) (text : List ℕ) (r : Result U PutFault) (u : U) → r ≡ Ok u → PutsText desk port a b text r → PutsText {S = S} {T = T} desk port a b text (Err NoMemory)
then_no_memory desk port a b text r u e p = record {
  all = tt;
  part = whole_part (desk.ports a port).text (desk.ports b port).text text (subst (λ (q : Result _ PutFault). OnOk q (Appends (desk.ports a port).text (desk.ports b port).text text)) e p.all);
  fault = λ k. (let q = k in cc);
  none = λ k. p.none (λ w. (let q : Ok u ≡ Err WriteFault = sym e ∙ w in cc));
  later = p.later;
  is_open = p.is_open;
  name = p.name;
  apart = p.apart;
}

-- the parts are written
written : (lines : Lines) (s : SourceValue) (a b c : Option (List ℕ)) (ps : List Part) (r : Reached) → IsPending lines s a b ps r → Appends b c (text_of ps) → Appends a c (flat_map (slab_lines lines s) (range_with_len 0 r.first))
written lines s a b c ps r p h =
    let f = slab_lines lines s in
    subst (λ (t : List ℕ). Appends a c t)
    (ap (λ l. flat_map f (range_with_len 0 p.done) ++ l) (parts_text lines s p.done ps p.parts) ∙ slabs_then f p.done (length ps) ∙ ap (λ k. flat_map f (range_with_len 0 k)) (sym p.first))
    (Appends-trans a b c (flat_map f (range_with_len 0 p.done)) (text_of ps) p.text h)

-- and the next are made
pub went : (lines : Lines) (s : SourceValue) (a b c : Option (List ℕ)) (ps qs : List Part) (r q : Reached) → IsPending lines s a b ps r → Appends b c (text_of ps) → AreParts lines s r.first qs → q.first ≡ r.first + length qs → IsPending lines s a c qs q
went lines s a b c ps qs r q p h are first = record { done = r.first; parts = are; first = first; text = written lines s a b c ps r p h }

-- they are the last
pub ended : (lines : Lines) (s : SourceValue) (a b c : Option (List ℕ)) (ps : List Part) (r : Reached) → 0 < s.slab → r.first ≡ slabs s.field.dims s.slab → IsPending lines s a b ps r → Appends b c (text_of ps) → Appends a c (all_lines lines s)
ended lines s a b c ps r some end p h =
    subst (λ (t : List ℕ). Appends a c t) (ap (λ k. flat_map (slab_lines lines s) (range_with_len 0 k)) end ∙ all_slabs lines s some) (written lines s a b c ps r p h)

-- some of them are written
pub broken : (lines : Lines) (s : SourceValue) (a b c : Option (List ℕ)) (ps : List Part) (r : Reached) → 0 < s.slab → r.first ≤ slabs s.field.dims s.slab → IsPending lines s a b ps r → AppendsPart b c (text_of ps) → AppendsPart a c (all_lines lines s)
broken lines s a b c ps r some within p h = broke lines s p.done ps a b c some (subst (λ n. n ≤ slabs s.field.dims s.slab) p.first within) p.parts p.text h
