use Rattle.std.proofs.Common.{ℕ, ◌+◌, ◌++◌, ◌∙◌, ap, length}
use Rattle.std.specs.Prelude.{flat_map}
use Rattle.std.specs.List.{enumerate_from}
use Rattle.definitions.specs.Angles.{angles_of, extremes_of}
use Rattle.slab_texts.proofs.lines.push_all.Goals as goal

pub push_text-requires-clause-small : goal.push_text-requires-clause-small
push_text-requires-clause-small c = λ k d lt i z short. (c.requires.among k d lt i z short).small

pub returns-clause-adds : goal.returns-clause-adds
returns-clause-adds c = λ all r.
    record {
      text = c.in_ok-push_text.ensures.text;
      writes = c.push_text.ensures.writes;
      numbering = c.push_text.ensures.numbering;
      number = ap (λ (k : ℕ). k + length c.args.tets.now) c.push_text.ensures.number;
      angles = λ xs e.
          c.take_all.ensures all r xs (c.push_text.ensures.angles ∙ e)
          ∙ ap (λ n. extremes_of (xs ++ flat_map (angles_of all) (enumerate_from n c.args.tets.now))) c.push_text.ensures.number;
    }
