use Rattle.std.proofs.Common.{◌≡◌, ◌+◌, ◌*◌, ℕ, arith, sym, subst, ◌∙◌}
use Rattle.definitions.specs.declared.Dims.{Dims}
use Rattle.definitions.specs.Layout.{layer_start}
use Rattle.lattice_counts.specs.Counts.{row_len}
use Rattle.vertex_numbers.specs.Counts.{row_start}
use Rattle.vertex_numbers.specs.Numbering.{HasRoom, IsDraft}
use Rattle.vertex_numbers.specs.Rows.{IsRow}
use Rattle.vertex_numbers.specs.declared.runs.Row.{Row}
use Rattle.vertex_numbers.proofs.Drafts.{same_draft}
use Rattle.vertex_numbers.proofs.starts.push_row.Goals as goal

starts_at : (d e : Dims) → e ≡ d → (r : Row) → IsRow e r → (h j : ℕ) → r.h ≡ h → r.j ≡ j → r.start ≡ row_start d h j
starts_at d e same r row h j layer place = row.start ∙ (λ i. row_start (same i) (layer i) (place i))

pub with_row-requires-clause-draft : goal.with_row-requires-clause-draft
with_row-requires-clause-draft c =
    let s = c.args.states.now in
    let room = c.in_ok-draft.ensures in
    let row = c.row_of.ensures in
    subst (λ n. IsDraft s.dims s.states n c.in_ok-draft.draft) (sym (starts_at s.dims c.dims-dims.result c.dims-dims.ensures.dims c.row_of.result row.row c.args.h c.args.j row.h row.j))
    (same_draft s.dims s.states (row_start s.dims c.args.h c.args.j) c.args.draft c.in_ok-draft.draft c.requires.draft room.first room.nodes room.before room.count)

pub with_row-requires-clause-room : goal.with_row-requires-clause-room
with_row-requires-clause-room c =
    let same = c.dims-dims.ensures.dims in
    subst (HasRoom c.in_ok-draft.draft) (c.columns.ensures.columns ∙ (λ i. row_len (same i).nx (sym c.row_of.ensures.h i))) c.in_ok-draft.ensures.room

pub returns-clause-draft : goal.returns-clause-draft
returns-clause-draft c =
    let s = c.args.states.now in
    let row = c.row_of.ensures in
    let start = starts_at s.dims c.dims-dims.result c.dims-dims.ensures.dims c.row_of.result row.row c.args.h c.args.j row.h row.j in
    subst (λ n. IsDraft s.dims s.states n c.with_row.result) ((λ i. start i + row_len s.dims.nx (row.h i)) ∙ next (layer_start s.dims c.args.h) c.args.j (row_len s.dims.nx c.args.h)) c.with_row.ensures.draft
  where
    next : (a j w : ℕ) → a + j * w + w ≡ a + (j + 1) * w
    next a j w = omega arith
