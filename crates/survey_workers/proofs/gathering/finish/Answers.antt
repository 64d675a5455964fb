use Rattle.std.proofs.Common.{◌≤◌, ◌+◌, ◌-◌, ◌*◌, sym, subst, refl, arith}
use Rattle.definitions.specs.declared.Dims.{Dims}
use Rattle.definitions.specs.Lattice.{layers}
use Rattle.definitions.specs.Layout.{slabs}
use Rattle.survey_workers.proofs.Ends.{all_known, few_made, once_of}
use Rattle.survey_workers.proofs.Tables.{all_right}
use Rattle.survey_workers.proofs.gathering.finish.Goals as goal

pub close-published-requires-clause-all : goal.close-published-requires-clause-all
close-published-requires-clause-all c =
    let d = c.args.cells.subject.field.dims in
    let t = c.args._layout.now.slab in
    let once = once_of c.args._layout.now.dims d t c.args.claims.slabs c.args.all.claims.drawn c.close-drawn.result c.close-drawn.ensures.each_once c.close-drawn.ensures.drawn c.requires.slabs c.requires.sizes in
    all_known d t c.args.all.claims.drawn c.args.all.cells.seen c.requires.layout.low once c.requires.gathered.knows

pub returns-clause-few : goal.returns-clause-few
returns-clause-few c =
    let d = c.args.cells.subject.field.dims in
    let t = c.args._layout.now.slab in
    let once = once_of c.args._layout.now.dims d t c.args.claims.slabs c.args.all.claims.drawn c.close-drawn.result c.close-drawn.ensures.each_once c.close-drawn.ensures.drawn c.requires.slabs c.requires.sizes in
    let few = few_made d t c.args.all.claims.drawn c.args.all.cells.made c.requires.layout.low once c.requires.gathered.few in
    let m = c.requires.gathered.made in
    subst (λ (e : Dims). c.args.all.made ≤ layers e + 4 * (slabs e t - 1)) (sym c.requires.sizes) (omega arith)

pub returns-clause-table : goal.returns-clause-table
returns-clause-table c =
    let d = c.args.cells.subject.field.dims in
    let t = c.args._layout.now.slab in
    let once = once_of c.args._layout.now.dims d t c.args.claims.slabs c.args.all.claims.drawn c.close-drawn.result c.close-drawn.ensures.each_once c.close-drawn.ensures.drawn c.requires.slabs c.requires.sizes in
    all_right c.args.cells.subject d t c.args.all.claims.drawn c.args.all.table.items refl c.requires.layout.low once c.requires.gathered.room c.requires.gathered.counts
