use Rattle.std.proofs.Common.{◌≡◌, ◌≤◌, ◌<◌, ◌+◌, ◌-◌, ◌^◌, ℕ, Fits, w32, List, length, arith, ap, subst, ◌∙◌}
use Rattle.definitions.specs.declared.Dims.{Dims}
use Rattle.definitions.specs.declared.State.{State}
use Rattle.definitions.specs.declared.Vertex.{Vertex}
use Rattle.definitions.specs.Lattice.{IsDims, id, vertices}
use Rattle.lattice_counts.specs.Counts.{row_len}
use Rattle.lattice_counts.proofs.Ranks.{all_small}
use Rattle.vertex_numbers.specs.Numbering.{HasRoom, IsDraft, mesh_bits}
use Rattle.vertex_numbers.specs.Rows.{IsRow, row_vertex}
use Rattle.vertex_numbers.specs.declared.runs.Row.{Row}
use Rattle.vertex_numbers.proofs.Drafts.{few_more, room_for_fewer}
use Rattle.vertex_numbers.proofs.NumberedIds.{draft_more}
use Rattle.vertex_numbers.proofs.Rows.{place_id, place_within, run_bits}
use Rattle.vertex_numbers.proofs.starts.push_from.Goals as goal

-- the bits at a place of the row
bits_there : (d e : Dims) (ss : List State) → e ≡ d → IsDims d → (r : Row) → IsRow d r → (i : ℕ) → i < row_len d.nx r.h → (bits : ℕ) (v : Vertex) → v ≡ row_vertex r.h r.j i → bits ≡ mesh_bits e ss (id e v) → bits ≡ mesh_bits d ss (r.start + i)
bits_there d e ss same is r row i lt bits v at b = b ∙ (λ k. mesh_bits (same k) ss (id (same k) (at k))) ∙ ap (mesh_bits d ss) (place_id d is r row i lt)

dims_there : (d e : Dims) → e ≡ d → IsDims e → IsDims d
dims_there d e same is = subst (λ (f : Dims). IsDims f) same is

pub push_one-requires-clause-few : goal.push_one-requires-clause-few
push_one-requires-clause-few c =
    let s = c.args.states.now in
    let is = dims_there s.dims c.args.dims c.requires.dims c.requires.sizes in
    let row = c.requires.row in
    few_more s.dims s.states is (c.args.row.start + c.args.i) _ _ (place_within s.dims is c.args.row row c.args.i c.requires.place) c.requires.draft.count
    (bits_there s.dims c.args.dims s.states c.requires.dims is c.args.row row c.args.i c.requires.place _ c.vertex_in_row.result c.vertex_in_row.ensures.vertex c.bits_at.ensures)

pub overflow_add-row : goal.overflow_add-row
overflow_add-row c =
    let s = c.args.states.now in
    let is = dims_there s.dims c.args.dims c.requires.dims c.requires.sizes in
    fits c.args.row.start c.args.i (length (vertices s.dims)) (place_within s.dims is c.args.row c.requires.row c.args.i c.requires.place) (all_small s.dims is)
  where
    fits : (a i l : ℕ) → a + i < l → l ≤ 2 ^ 27 → Fits w32 (a + (i + 1))
    fits a i l lt le = omega arith

pub push_run-requires-clause-draft : goal.push_run-requires-clause-draft
push_run-requires-clause-draft c =
    let s = c.args.states.now in
    let is = dims_there s.dims c.args.dims c.requires.dims c.requires.sizes in
    let one = c.push_one.ensures in
    subst (λ m. IsDraft s.dims s.states m c.push_one.new.draft) (one_further c.args.row.start c.args.i)
    (draft_more s.dims s.states (c.args.row.start + c.args.i) c.args.draft.now c.push_one.new.draft _ c.requires.draft
    (bits_there s.dims c.args.dims s.states c.requires.dims is c.args.row c.requires.row c.args.i c.requires.place _ c.vertex_in_row.result c.vertex_in_row.ensures.vertex c.bits_at.ensures)
    one.first one.nodes one.before one.count)
  where
    one_further : (a i : ℕ) → a + i + 1 ≡ a + (i + 1)
    one_further a i = omega arith

pub push_run-requires-clause-within : goal.push_run-requires-clause-within
push_run-requires-clause-within c =
    let s = c.args.states.now in
    let is = dims_there s.dims c.args.dims c.requires.dims c.requires.sizes in
    let run = c.run_at-run.ensures in
    let end = c.run_at-run.result.end in
    reach c.args.row.start c.args.i end (length (vertices s.dims)) run.low (place_within s.dims is c.args.row c.requires.row (end - 1) (last c.args.i end (row_len s.dims.nx c.args.row.h) run.low run.high))
  where
    last : (i e l : ℕ) → i < e → e ≤ l → e - 1 < l
    last i e l lt le = omega arith

    reach : (a i e l : ℕ) → i < e → a + (e - 1) < l → a + (i + 1) + (e - (i + 1)) ≤ l
    reach a i e l lt h = omega arith

pub push_run-requires-clause-bits : goal.push_run-requires-clause-bits
push_run-requires-clause-bits c = λ n lo hi.
    let s = c.args.states.now in
    let is = dims_there s.dims c.args.dims c.requires.dims c.requires.sizes in
    let run = c.run_at-run.ensures in
    let end = c.run_at-run.result.end in
    run_bits s.dims is c.args.row c.requires.row s.states c.requires.padded c.run_at-run.result.is_plus (c.args.i + 1) end run.high run.alike n lo (before_end c.args.row.start c.args.i end n run.low hi)
  where
    before_end : (a i e n : ℕ) → i < e → n < a + (i + 1) + (e - (i + 1)) → n < a + e
    before_end a i e n lt h = omega arith

pub push_run-requires-clause-room : goal.push_run-requires-clause-room
push_run-requires-clause-room c =
    let run = c.run_at-run.ensures in
    let end = c.run_at-run.result.end in
    let len = row_len c.args.states.now.dims.nx c.args.row.h in
    c.push_one.ensures.room (end - (c.args.i + 1)) (room_for_fewer c.args.draft.now (end - (c.args.i + 1) + 1) (len - c.args.i) (fewer c.args.i end len run.low run.high) c.requires.room)
  where
    fewer : (i e l : ℕ) → i < e → e ≤ l → e - (i + 1) + 1 ≤ l - i
    fewer i e l lt le = omega arith

pub returns-clause-room : goal.returns-clause-room
returns-clause-room c =
    let run = c.run_at-run.ensures in
    let end = c.run_at-run.result.end in
    let len = row_len c.args.states.now.dims.nx c.args.row.h in
    c.push_run.ensures.room (len - end) (c.push_one.ensures.room (end - (c.args.i + 1) + (len - end)) (subst (λ m. HasRoom c.args.draft.now m) (all c.args.i end len run.low run.high) c.requires.room))
  where
    all : (i e l : ℕ) → i < e → e ≤ l → l - i ≡ e - (i + 1) + (l - e) + 1
    all i e l lt le = omega arith
