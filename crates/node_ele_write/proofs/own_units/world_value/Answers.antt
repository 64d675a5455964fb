use Rattle.std.proofs.Common.{◌≡◌, ◌<◌, ◌^◌, pos, ◌*ℤ◌, rules}
use Rattle.std.specs.Prelude.{unsigned_abs, ◌+ℤ◌}
use Rattle.mesh_texts.specs.Frames.{world_value}
use Rattle.node_ele_write.proofs.WorldValues.{offset_size, value_is, value_exact}
use Rattle.node_ele_write.proofs.own_units.world_value.Goals as goal

pub finer-requires : goal.finer-requires
finer-requires c =
    let small : unsigned_abs c.args.axis.now.offset < 10 ^ 24 = offset_size c.args.axis.now.offset c.requires.axis.offset_low c.requires.axis.offset_high in
    search (rules, small)

pub returns-clause-value : goal.returns-clause-value
returns-clause-value c =
    let s : c.stepped.result ≡ pos c.args.step *ℤ c.args.coordinate = search rules in
    let t : c.spaced-spaced.result ≡ c.args.axis.now.spacing *ℤ c.stepped.result = search rules in
    let o : c.finer.result ≡ c.args.axis.now.offset *ℤ pos (10 ^ 13) = search rules in
    let e : c.eighths.result ≡ c.spaced-spaced.result *ℤ pos (5 ^ 13) = search rules in
    let a : c.sum.result ≡ c.finer.result +ℤ c.eighths.result = search rules in
    let whole : c.sum.result ≡ world_value c.args.axis.now c.args.step c.args.coordinate = value_is c.args.axis.now c.args.step c.args.coordinate c.stepped.result c.spaced-spaced.result c.finer.result c.eighths.result c.sum.result s t o e a in
    search (rules, whole)

pub returns-clause-exact : goal.returns-clause-exact
returns-clause-exact c =
    let s : c.stepped.result ≡ pos c.args.step *ℤ c.args.coordinate = search rules in
    let t : c.spaced-spaced.result ≡ c.args.axis.now.spacing *ℤ c.stepped.result = search rules in
    let o : c.finer.result ≡ c.args.axis.now.offset *ℤ pos (10 ^ 13) = search rules in
    let e : c.eighths.result ≡ c.spaced-spaced.result *ℤ pos (5 ^ 13) = search rules in
    let a : c.sum.result ≡ c.finer.result +ℤ c.eighths.result = search rules in
    let whole : c.sum.result ≡ world_value c.args.axis.now c.args.step c.args.coordinate = value_is c.args.axis.now c.args.step c.args.coordinate c.stepped.result c.spaced-spaced.result c.finer.result c.eighths.result c.sum.result s t o e a in
    let exact = value_exact c.args.axis.now.offset (c.args.axis.now.spacing *ℤ (pos c.args.step *ℤ c.args.coordinate)) c.sum.result whole in
    search (rules, exact)
