-- The texts of the mesh of a field are read back as this mesh, and it is found sound.
use Rattle.std.proofs.Common.{◌≡◌, ℕ, zero, suc, ◌*◌, ◌^◌, ◌<◌, ◌≤◌, List, [], ◌∷◌, length, map, Ok, ap, ◌∙◌, get_or, refl, sym, subst, arith, ℤ, pos, ◌*ℤ◌, unsigned_abs}
use Rattle.std.proofs.lemmas.Int.{ints}
use Rattle.std.proofs.lemmas.List.{length-map}
use Rattle.std.proofs.lemmas.List.Elements.{All-head, All-tail, All-nil, All-cons}
use Rattle.std.specs.List.{All}
use Rattle.definitions.specs.declared.Dims.{Dims}
use Rattle.definitions.specs.declared.Place.{Place}
use Rattle.definitions.specs.declared.State.{State}
use Rattle.definitions.specs.Values.{Field}
use Rattle.definitions.specs.States.{Shares, states}
use Rattle.definitions.specs.Mesh.{mesh, node_keys, node_place}
use Rattle.exact.proofs.IntegerOrder.{size_of_product}
use Rattle.place_laws.specs.Inside.{IsOnAxis, StandsInside}
use Rattle.place_laws.proofs.NodePlaces.{nodes_stand_inside}
use Rattle.near_laws.proofs.NearNodes.{nodes_are_near}
use Rattle.sound_laws.proofs.Sound.{mesh_conforms}
use Rattle.mesh_texts.specs.Nodes.{node_of_key, nodes_of, mesh_nodes}
use Rattle.mesh_files.specs.Files.{Nodes, IsSmallPlace}
use Rattle.audit_laws.specs.Laws.{scaled, first_said, nodes_read, nodes_back, FitsFiles, MeshIsReadBack}
use Rattle.audit_laws.proofs.NodesBack.{nodes_are_read_back, few_nodes}
use Rattle.audit_laws.proofs.TetsBack.{tets_are_read_back}
use Rattle.audit_laws.proofs.SoundVerdict.{conforming_are_sound}

-- a coordinate on an axis, times the step
scaled_small : (step n : ℕ) (z : ℤ) → step < 1048576 → step * n < 1048576 → IsOnAxis n z → unsigned_abs (pos step *ℤ z) < 2 ^ 33
scaled_small step zero z few fits on =
    let size : unsigned_abs z ≤ 8192 = omega (arith, ints, on.low, on.high) in
    let same : unsigned_abs (pos step) ≤ step = omega arith in
    let product : unsigned_abs (pos step *ℤ z) ≤ step * 8192 = size_of_product (pos step) z step 8192 same size in
    omega arith
scaled_small step (suc n) z few fits on =
    let size : unsigned_abs z ≤ 8192 * suc n = omega (arith, ints, on.low, on.high) in
    let same : unsigned_abs (pos step) ≤ step = omega arith in
    let product : unsigned_abs (pos step *ℤ z) ≤ step * (8192 * suc n) = size_of_product (pos step) z step (8192 * suc n) same size in
    let regroup : step * (8192 * suc n) ≡ step * suc n * 8192 = moved step (suc n) in
    omega arith
  where
    moved : (s m : ℕ) → s * (8192 * m) ≡ s * m * 8192
    moved s m = omega arith

scaled_inside : (step : ℕ) (d : Dims) (p : Place) → FitsFiles step d → StandsInside d p → IsSmallPlace (scaled step p)
scaled_inside step d p fits inside =
    record {
      x = scaled_small step d.nx p.x fits.small fits.x inside.x;
      y = scaled_small step d.ny p.y fits.small fits.y inside.y;
      z = scaled_small step d.nz p.z fits.small fits.z inside.z;
    }

-- where the nodes of a mesh stand
places_of_nodes : (step : ℕ) (f : Field) (ss : List State) (keys : List ℕ) → map (λ n. scaled step n.place) (map (node_of_key f ss) keys) ≡ map (scaled step) (map (node_place f ss) keys)
places_of_nodes step f ss [] = refl
places_of_nodes step f ss (key ∷ keys) = ap (λ ps. scaled step (node_place f ss key) ∷ ps) (places_of_nodes step f ss keys)

first_of_nodes : (first : ℕ) (f : Field) (ss : List State) (keys : List ℕ) → first_said first (map (node_of_key f ss) keys) ≡ first_said first (map (node_place f ss) keys)
first_of_nodes first f ss [] = refl
first_of_nodes first f ss (key ∷ keys) = refl

nodes_same : (step first : ℕ) (f : Field) (s : Shares) → nodes_read step first (mesh_nodes f s) ≡ nodes_back step first f s
unfolding mesh nodes_of
nodes_same step first f s =
    let ss = states f s in
    let keys = node_keys f.dims ss in
    λ i. record { first = first_of_nodes first f ss keys i; places = places_of_nodes step f ss keys i }

first_back : (step first : ℕ) (places : List Place) → first_said first places ≡ first_said first (map (scaled step) places)
first_back step first [] = refl
first_back step first (p ∷ ps) = refl

-- what holds of each place of a mesh, times the step, holds of each node's
small_keys : (step : ℕ) (f : Field) (ss : List State) (keys : List ℕ) → All (λ p. IsSmallPlace (scaled step p)) (map (node_place f ss) keys) → All (λ n. IsSmallPlace (scaled step n.place)) (map (node_of_key f ss) keys)
small_keys step f ss [] h = All-nil (λ n. IsSmallPlace (scaled step n.place))
small_keys step f ss (key ∷ keys) h =
    All-cons (λ n. IsSmallPlace (scaled step n.place)) (node_of_key f ss key) (map (node_of_key f ss) keys)
    (All-head (λ p. IsSmallPlace (scaled step p)) (node_place f ss key) (map (node_place f ss) keys) h)
    (small_keys step f ss keys (All-tail (λ p. IsSmallPlace (scaled step p)) (node_place f ss key) (map (node_place f ss) keys) h))

small_nodes : (step : ℕ) (f : Field) (s : Shares) → All (λ p. IsSmallPlace (scaled step p)) (mesh f s).places → All (λ n. IsSmallPlace (scaled step n.place)) (mesh_nodes f s)
unfolding mesh nodes_of
small_nodes step f s h = small_keys step f (states f s) (node_keys f.dims (states f s)) h

count_same : (f : Field) (s : Shares) → length (mesh_nodes f s) ≡ length (mesh f s).places
unfolding mesh nodes_of
count_same f s =
    let ss = states f s in
    let keys = node_keys f.dims ss in
    length-map keys (node_of_key f ss) ∙ sym (length-map keys (node_place f ss))

pub mesh_is_read_back : MeshIsReadBack
mesh_is_read_back f s step first shares fits low nodes_within tets_within =
    let places = (mesh f s).places in
    let tets = (mesh f s).tets in
    let conforming = mesh_conforms f s shares in
    let few : length places < 2 ^ 30 = subst (λ (c : ℕ). c < 2 ^ 30) (count_same f s) (few_nodes step first (mesh_nodes f s) nodes_within) in
    let small = small_nodes step f s (λ k d lt. scaled_inside step f.dims (get_or places k d) fits (nodes_stand_inside f s k d lt)) in
    let numbers : All (All (λ n. n < length places)) tets = λ k d lt. (nodes_are_near f s shares k d lt).numbers in
    let count : length places ≡ length (map (scaled step) places) = sym (length-map places (scaled step)) in
    let moved : All (All (λ n. n < length (map (scaled step) places))) tets = subst (λ (c : ℕ). All (All (λ n. n < c)) tets) count numbers in
    record {
      nodes = nodes_are_read_back step first (mesh_nodes f s) low nodes_within small ∙ ap (λ (n : Nodes). Ok n) (nodes_same step first f s);
      tets = tets_are_read_back first (nodes_back step first f s) tets low (first_back step first places) (subst (λ (c : ℕ). c < 2 ^ 30) count few) conforming.four moved tets_within;
      sound = conforming_are_sound step (first_said first places) places tets fits.one conforming numbers few;
    }
