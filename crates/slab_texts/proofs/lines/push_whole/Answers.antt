use Rattle.std.proofs.Common.{All, ◌∙◌, refl, sym, subst}
use Rattle.std.specs.Prelude.{Err, Ok, OnOk, Result}
use Rattle.dihedral.specs.Shapes.{Covers}
use Rattle.definitions.specs.Vectors.{place_at}
use Rattle.mesh_lists.specs.Parts.{whole_tets}
use Rattle.slab_texts.proofs.TakenAngles.{stay_all}
use Rattle.slab_texts.proofs.lines.push_whole.Goals as goal

pub push_known_six-requires-clause-small : goal.push_known_six-requires-clause-small
push_known_six-requires-clause-small c = λ k d lt i z short. (c.requires.among k d lt i z short).small

both : {T E A B C : Type 0} (r : Result T E) → (A → B → C) → OnOk r A → OnOk r B → OnOk r C
both (Ok x) f a b = f a b
both (Err e) f a b = tt

pub returns-then-knows_star-clause-adds : goal.returns-then-knows_star-clause-adds
returns-then-knows_star-clause-adds c =
    let o = c.args.out.now in
    let w = c.args.whole.now in
    let six = c.push_known_six.ensures in
    both c.push_known_six.result (
    λ text number all r. record {
      text = text;
      writes = six.writes;
      numbering = six.numbering;
      number = number;
      angles = λ xs e. six.angles ∙ stay_all all o.angles o.number (whole_tets w.own w.later) xs (subst (All (Covers o.angles)) (sym (c.requires.star all r)) (c.if-knows_star.ensures refl (place_at all w.own))) e;
    }
    ) six.text six.number
