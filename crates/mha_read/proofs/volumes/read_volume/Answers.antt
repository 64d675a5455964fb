use Rattle.std.proofs.Common.{◌*◌, ◌∙◌, ap, ℕ, arith, sym, subst}
use Rattle.formats.specs.declared.Kind.{Kind}
use Rattle.formats.specs.Volumes.{volume_answer, IsVolume}
use Rattle.mha_read.specs.Samples.{row_bytes}
use Rattle.mha_read.specs.VolumeTold.{grid_in}
use Rattle.mha_read.proofs.VolumeParts.{allowed_sizes, grid_is, rows_make, rows_wanted, told_whole, told_truncated, fewer_wanted, told_fault}
use Rattle.mha_read.proofs.volumes.read_volume.Goals as goal

pub read_samples-requires-clause-grid : goal.read_samples-requires-clause-grid
read_samples-requires-clause-grid g c =
    rw c.grid_of-grid.ensures (grid_is c.args.head.now c.args.step c.requires.sizes c.in-Ok.ensures.raw.0 c.in-Ok.ensures.raw.1 c.requires.step c.requires.step_bound)

pub new-requires : goal.new-requires
new-requires g c =
    let allowed = allowed_sizes c.args.limits.now c.args.head.now c.args.step c.in-Ok.sizes c.in-Ok.ensures.value in
    let takes = rw c.grid_of-grid.ensures at c.in-Ok-read_samples.ensures.samples in
    let low = rw c.grid_of-grid.ensures at c.in-Ok-read_samples.ensures.low in
    let high = rw c.grid_of-grid.ensures at c.in-Ok-read_samples.ensures.high in
    let kind = rw c.grid_of-grid.ensures at c.in-Ok-read_samples.ensures.kind in
    subst (λ (k : Kind). IsVolume (record { dims = c.in-Ok.sizes; step = c.args.step; kind = k; samples = c.in-Ok-read_samples.samples.numbers })) (sym kind) (rows_make c.args.head.now c.args.step c.row_count.result c.in-Ok.sizes _ _ c.in-Ok-read_samples.samples.numbers c.in-Ok.ensures.sizes allowed.1 c.requires.step c.requires.step_bound c.row_count.ensures.value takes low high)

pub returns-in-Ok-read_samples-clause-told : goal.returns-in-Ok-read_samples-clause-told
returns-in-Ok-read_samples-clause-told g c = λ text len e.
    let allowed = allowed_sizes c.args.limits.now c.args.head.now c.args.step c.in-Ok.sizes c.in-Ok.ensures.value in
    let takes = rw c.grid_of-grid.ensures at c.in-Ok-read_samples.ensures.samples in
    let grid = grid_is c.args.head.now c.args.step c.requires.sizes c.in-Ok.ensures.raw.0 c.in-Ok.ensures.raw.1 c.requires.step c.requires.step_bound in
    let kind = rw c.grid_of-grid.ensures at c.in-Ok-read_samples.ensures.kind in
    rw (c.new.ensures, kind) (told_whole c.args.limits.now c.args.head.now text len c.args.step c.row_count.result c.in-Ok.sizes c.in-Ok-read_samples.samples.numbers _ _ grid allowed.0 allowed.1 c.row_count.ensures.value takes e)

pub returns-in-Truncated-clause-follows : goal.returns-in-Truncated-clause-follows
returns-in-Truncated-clause-follows g c =
    let allowed = allowed_sizes c.args.limits.now c.args.head.now c.args.step c.in-Ok.sizes c.in-Ok.ensures.value in
    let last = rw (c.in-Truncated.is, c.grid_of-grid.ensures) at c.in-Err-read_samples.ensures.samples in
    let count = ap (λ (n : ℕ). n * row_bytes (grid_in c.args.head.now c.args.step)) c.row_count.ensures.value ∙ rows_wanted c.args.head.now c.args.step in
    (allowed.0, c.byte_count-wanted.ensures, omega (arith, last.fewer, count, c.byte_count-wanted.ensures))

pub returns-in-Truncated-clause-told : goal.returns-in-Truncated-clause-told
returns-in-Truncated-clause-told g c = λ text len e.
    let allowed = allowed_sizes c.args.limits.now c.args.head.now c.args.step c.in-Ok.sizes c.in-Ok.ensures.value in
    let last = rw (c.in-Truncated.is, c.grid_of-grid.ensures) at c.in-Err-read_samples.ensures.samples in
    let count = ap (λ (n : ℕ). n * row_bytes (grid_in c.args.head.now c.args.step)) c.row_count.ensures.value ∙ rows_wanted c.args.head.now c.args.step in
    told_truncated c.args.limits.now c.args.head.now text len c.args.step _ c.in-Truncated.got c.byte_count-wanted.result _ _ allowed.0 c.byte_count-wanted.ensures count last e

pub returns-in-ReadFault-clause-told : goal.returns-in-ReadFault-clause-told
returns-in-ReadFault-clause-told g c = λ text len e.
    let fewer = rw (c.in-ReadFault.is, c.grid_of-grid.ensures) at c.in-Err-read_samples.ensures.samples in
    let count = ap (λ (n : ℕ). n * row_bytes (grid_in c.args.head.now c.args.step)) c.row_count.ensures.value ∙ rows_wanted c.args.head.now c.args.step in
    told_fault (volume_answer c.args.limits.now text (record { head = c.args.head.now; len = len }) c.args.step) _ _ _ _ (fewer_wanted _ _ _ _ count fewer) e
