use Rattle.std.proofs.Common.{[], ◌∷◌, w64, to_z, of_z}
use Rattle.snap_rule.proofs.ValuesAround.{kept, kept_small, each_small}
use Rattle.snap_rule.proofs.values_around.in_order.Goals as goal

pub returns-clause-values : goal.returns-clause-values
returns-clause-values c = λ t. kept c.args.star.x.high c.requires.x.high t ∷ kept c.args.star.y.high c.requires.y.high t ∷ kept c.args.star.short.high.low.low c.requires.high.low.low t ∷ kept c.args.star.short.high.low.high c.requires.high.low.high t ∷ kept c.args.star.short.high.high.low c.requires.high.high.low t ∷ kept c.args.star.short.high.high.high c.requires.high.high.high t ∷ kept c.args.star.z.high c.requires.z.high t ∷ kept c.args.star.x.low c.requires.x.low t ∷ kept c.args.star.y.low c.requires.y.low t ∷ kept c.args.star.short.low.high.high c.requires.low.high.high t ∷ kept c.args.star.short.low.high.low c.requires.low.high.low t ∷ kept c.args.star.short.low.low.high c.requires.low.low.high t ∷ kept c.args.star.short.low.low.low c.requires.low.low.low t ∷ kept c.args.star.z.low c.requires.z.low t ∷ []

pub returns-clause-small : goal.returns-clause-small
returns-clause-small c = λ k d lt. each_small (to_z w64 (of_z w64 c.args.star.x.high) ∷ to_z w64 (of_z w64 c.args.star.y.high) ∷ to_z w64 (of_z w64 c.args.star.short.high.low.low) ∷ to_z w64 (of_z w64 c.args.star.short.high.low.high) ∷ to_z w64 (of_z w64 c.args.star.short.high.high.low) ∷ to_z w64 (of_z w64 c.args.star.short.high.high.high) ∷ to_z w64 (of_z w64 c.args.star.z.high) ∷ to_z w64 (of_z w64 c.args.star.x.low) ∷ to_z w64 (of_z w64 c.args.star.y.low) ∷ to_z w64 (of_z w64 c.args.star.short.low.high.high) ∷ to_z w64 (of_z w64 c.args.star.short.low.high.low) ∷ to_z w64 (of_z w64 c.args.star.short.low.low.high) ∷ to_z w64 (of_z w64 c.args.star.short.low.low.low) ∷ to_z w64 (of_z w64 c.args.star.z.low) ∷ []) (kept_small c.args.star.x.high c.requires.x.high, (kept_small c.args.star.y.high c.requires.y.high, (kept_small c.args.star.short.high.low.low c.requires.high.low.low, (kept_small c.args.star.short.high.low.high c.requires.high.low.high, (kept_small c.args.star.short.high.high.low c.requires.high.high.low, (kept_small c.args.star.short.high.high.high c.requires.high.high.high, (kept_small c.args.star.z.high c.requires.z.high, (kept_small c.args.star.x.low c.requires.x.low, (kept_small c.args.star.y.low c.requires.y.low, (kept_small c.args.star.short.low.high.high c.requires.low.high.high, (kept_small c.args.star.short.low.high.low c.requires.low.high.low, (kept_small c.args.star.short.low.low.high c.requires.low.low.high, (kept_small c.args.star.short.low.low.low c.requires.low.low.low, (kept_small c.args.star.z.low c.requires.z.low, tt)))))))))))))) k d lt
