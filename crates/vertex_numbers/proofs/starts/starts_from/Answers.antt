use Rattle.std.proofs.Common.{◌≡◌, ◌+◌, ◌-◌, ◌/◌, ◌<◌, ◌≤◌, ℕ, length, arith, ap, sym, subst, ◌∙◌}
use Rattle.definitions.specs.declared.Dims.{Dims}
use Rattle.definitions.specs.Lattice.{layers, vertices}
use Rattle.definitions.specs.Layout.{layer_start}
use Rattle.node_laws.proofs.Layers.{all_start}
use Rattle.vertex_numbers.proofs.LayerStarts.{starts_rise}
use Rattle.vertex_numbers.proofs.NumberedIds.{are_of_ids, are_starts, bits_len, number_is, used_is}
use Rattle.vertex_numbers.proofs.starts.starts_from.Goals as goal

-- the ids of the draft
all_ids : (first id : ℕ) → first ≤ id → first + (id - first) ≡ id
all_ids first id le = omega arith

inside : (n s l m : ℕ) → n < s + m → m ≡ l → n < s + l
inside n s l m h e = omega arith

within : (d : Dims) (to first : ℕ) → to ≤ layers d → first ≤ layer_start d to → first + (layer_start d to - first) ≤ length (vertices d)
within d to first le begun =
    subst (λ n. n ≤ length (vertices d)) (sym (all_ids first (layer_start d to) begun))
    (subst (λ n. layer_start d to ≤ n) (all_start d) (starts_rise d to (layers d) le (let r : layers d ≤ layers d = omega arith in r)))

pub invariant_of-result : goal.invariant_of-result
invariant_of-result c =
    let s = c.args.states.now in
    let draft = c.in_ok-first.field-0 in
    let is = c.in_ok-first.ensures.draft in
    are_starts s.dims s.states draft.first _ draft.nodes.items draft.before.items (are_of_ids s.dims s.states _ draft is) c.requires.dims (within s.dims c.args.to draft.first c.requires.within is.begun)

pub returns-clause-numbers : goal.returns-clause-numbers
returns-clause-numbers c =
    let s = c.args.states.now in
    let draft = c.in_ok-first.field-0 in
    let is = c.in_ok-first.ensures.draft in
    let are = are_of_ids s.dims s.states _ draft is in
    let len = bits_len s.dims s.states draft.first _ draft.nodes.items draft.before.items are in
    record {
      first = c.in_ok-first.ensures.first;
      end = ap (λ n. draft.first + n) len ∙ all_ids draft.first _ is.begun;
      used = λ key h. used_is s.dims s.states draft.first _ draft.nodes.items draft.before.items are key h.low (inside (key / 8) draft.first _ _ h.high len);
      number = λ key h o.
          number_is s.dims s.states draft.first _ draft.nodes.items draft.before.items are key h.low (inside (key / 8) draft.first _ _ h.high len) (within s.dims c.args.to draft.first c.requires.within is.begun) o;
    }
