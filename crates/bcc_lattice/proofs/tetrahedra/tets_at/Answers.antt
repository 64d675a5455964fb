use Rattle.std.proofs.Common.{refl}
use Rattle.bcc_lattice.proofs.ListedTets.{AreTetsFrom, pushed_are_tets}
use Rattle.bcc_lattice.specs.declared.tetrahedra.Numbered.{Numbered}
use Rattle.bcc_lattice.specs.TetLists.{tets_of, IsNumbered}
use Rattle.bcc_lattice.proofs.tetrahedra.tets_at.Goals as goal

are : (c : goal.After-push-6) → AreTetsFrom c.args.dims c.args.v (tets_of c.push-6.new.tets)
are c =
    let lowest : Numbered = record { vertex = c.args.v; id = c.id.result } in
    let l : IsNumbered c.args.dims lowest = record { domain = c.requires.domain; number = c.id.ensures.id } in
    pushed_are_tets c.args.dims c.args.v lowest c.later-first.result c.later-second.result c.later-third.result c.later-fourth.result c.later-fifth.result c.later-sixth.result c.later-seventh.result
    (record {
      is_v = refl;
      lowest = l;
      first = c.later-first.ensures;
      second = c.later-second.ensures;
      third = c.later-third.ensures;
      fourth = c.later-fourth.ensures;
      fifth = c.later-fifth.ensures;
      sixth = c.later-sixth.ensures;
      seventh = c.later-seventh.ensures;
    })
    c.requires.domain (tets_of c.push.new.tets) (tets_of c.push-2.new.tets) (tets_of c.push-3.new.tets) (tets_of c.push-4.new.tets) (tets_of c.push-5.new.tets) (tets_of c.push-6.new.tets)
    c.push.ensures.more c.push-2.ensures.more c.push-3.ensures.more c.push-4.ensures.more c.push-5.ensures.more c.push-6.ensures.more

pub returns-clause-tets : goal.returns-clause-tets
returns-clause-tets c = (are c).vertices

pub returns-clause-ids : goal.returns-clause-ids
returns-clause-ids c = (are c).ids

pub returns-clause-lattice : goal.returns-clause-lattice
returns-clause-lattice c = (are c).lattice

pub returns-clause-numbered : goal.returns-clause-numbered
returns-clause-numbered c = (are c).numbered
