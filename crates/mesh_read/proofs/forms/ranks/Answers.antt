use Rattle.std.proofs.Common.{◌-◌, ◌&&◌, ℕ, List, [], ◌∷◌, Bool, sym, slice_index}
use Rattle.std.specs.Str.Parse.{digits_value}
use Rattle.mesh_files.specs.Forms.{is_node_number}
use Rattle.mesh_files.specs.Numbers.{is_number}
use Rattle.mesh_read.proofs.RankAnswers.{ranks_ok, ranks_no_node, ranks_no_form}
use Rattle.mesh_read.proofs.forms.ranks.Goals as goal

abbrev are_nodes : ℕ → ℕ → List ℕ → Bool
are_nodes first count v = is_node_number first count (slice_index v 0) && (is_node_number first count (slice_index v 1) && (is_node_number first count (slice_index v 2) && is_node_number first count (slice_index v 3)))

abbrev less_first : ℕ → List ℕ → List ℕ
less_first first v = (slice_index v 0 - first) ∷ (slice_index v 1 - first) ∷ (slice_index v 2 - first) ∷ (slice_index v 3 - first) ∷ []

abbrev are_numbers : List ℕ → List ℕ → List ℕ → List ℕ → Bool
are_numbers a b c d = is_number a && (is_number b && (is_number c && is_number d))

abbrev values : List ℕ → List ℕ → List ℕ → List ℕ → List ℕ
values a b c d = digits_value 10 a ∷ digits_value 10 b ∷ digits_value 10 c ∷ digits_value 10 d ∷ []

pub returns-in-Some-four_ranks-clause-value : goal.returns-in-Some-four_ranks-clause-value
returns-in-Some-four_ranks-clause-value c = ranks_ok (are_numbers c.args.a.now c.args.b.now c.args.c.now c.args.d.now) (values c.args.a.now c.args.b.now c.args.c.now c.args.d.now) c.in-Some.numbers c.in-Some-four_ranks.ranks (are_nodes c.args.first c.args.count) (less_first c.args.first) (sym c.in-Some.ensures) (sym c.in-Some-four_ranks.ensures.value)

pub returns-in-None-four_ranks-clause-value : goal.returns-in-None-four_ranks-clause-value
returns-in-None-four_ranks-clause-value c = ranks_no_node (are_numbers c.args.a.now c.args.b.now c.args.c.now c.args.d.now) (values c.args.a.now c.args.b.now c.args.c.now c.args.d.now) c.in-Some.numbers (are_nodes c.args.first c.args.count) (less_first c.args.first) (sym c.in-Some.ensures) (sym c.in-None-four_ranks.ensures.value)

pub returns-in-None-clause-value : goal.returns-in-None-clause-value
returns-in-None-clause-value c = ranks_no_form (are_numbers c.args.a.now c.args.b.now c.args.c.now c.args.d.now) (values c.args.a.now c.args.b.now c.args.c.now c.args.d.now) _ (sym c.in-None.ensures)
