use Rattle.std.proofs.Common.{◌≡◌, ◌<◌, ◌++◌, ◌∷◌, [], List, append-nil, ap, arith, length, map, subst, sym, ◌∙◌}
use Rattle.std.specs.Prelude.{filter, if◌then◌else◌}
use Rattle.std.specs.List.{range_with_len}
use Rattle.std.proofs.lemmas.Result.{on_ok_weaker}
use Rattle.definitions.specs.Lattice.{vertex_at, vertices}
use Rattle.definitions.specs.Mesh.{state_at}
use Rattle.lattice_laws.proofs.Vertices.{vertex_at-id}
use Rattle.mesh_texts.specs.Nodes.{Node, node_of_key}
use Rattle.vertex_numbers.specs.Bits.{has_bit}
use Rattle.mesh_lists.specs.Parts.{keys_at}
use Rattle.mesh_lists.proofs.NodePlaces.{no_cuts}
use Rattle.slab_texts.specs.NodeLines.{AddsNodes, edge_node, vertex_node}
use Rattle.slab_texts.proofs.NodeLines.{edge_printable, more_nodes, nodes_of_bits, vertex_printable}
use Rattle.slab_texts.proofs.node_lines.push_nodes.Goals as goal

pub push_vertex-requires : goal.push_vertex-requires
push_vertex-requires c =
    let f = c.args.field.now in
    let ss = c.args.states.now.states in
    let at : vertex_at f.dims c.args.id ≡ c.args.v = ap (vertex_at f.dims) c.requires.id ∙ (vertex_at-id f.dims c.args.v c.requires.domain).1 in
    record {
      below = subst (λ d. c.args.id < length (vertices d)) (sym c.requires.sizes) c.requires.below;
      printable = vertex_printable f ss c.args.starts.now c.args.v c.args.id c.bits-bits.result c.requires.used c.requires.low c.requires.high at c.bits-bits.ensures c.args.frame.now c.requires.printable;
      room = (let r = c.requires.room in omega arith);
    }

pub push_cuts-requires : goal.push_cuts-requires
push_cuts-requires c =
    let f = c.args.field.now in
    let ss = c.args.states.now.states in
    let at : vertex_at f.dims c.args.id ≡ c.args.v = ap (vertex_at f.dims) c.requires.id ∙ (vertex_at-id f.dims c.args.v c.requires.domain).1 in
    record {
      domain = c.requires.domain;
      printable = edge_printable f ss c.args.starts.now c.args.v c.args.id c.bits-bits.result c.requires.used c.requires.low c.requires.high at c.bits-bits.ensures c.args.frame.now c.requires.printable;
      room = (let r = c.requires.room in let few = c.push_vertex.ensures.few in omega arith);
    }

pub returns-then-bits-lt2-clause-adds : goal.returns-then-bits-lt2-clause-adds
returns-then-bits-lt2-clause-adds c =
    let f = c.args.field.now in
    let ss = c.args.states.now.states in
    let bits = c.bits-bits.result in
    let own : List Node = if has_bit bits 0 then vertex_node c.args.v (state_at ss c.args.id) ∷ [] else [] in
    let at : vertex_at f.dims c.args.id ≡ c.args.v = ap (vertex_at f.dims) c.requires.id ∙ (vertex_at-id f.dims c.args.v c.requires.domain).1 in
    subst (λ (ns : List Node). AddsNodes c.args.frame.now c.args.out.now ns c.push_vertex.new.out)
    (sym (append-nil own) ∙ ap (λ ds. own ++ map (edge_node f c.args.v) ds) (sym (no_cuts bits c.if-bits-lt2.true))
    ∙ nodes_of_bits f ss c.args.starts.now c.args.v c.args.id bits c.requires.used c.requires.low c.requires.high at c.bits-bits.ensures)
    c.in_ok-push_vertex.ensures.adds

pub returns-clause-adds : goal.returns-clause-adds
returns-clause-adds c =
    let f = c.args.field.now in
    let ss = c.args.states.now.states in
    let bits = c.bits-bits.result in
    let own : List Node = if has_bit bits 0 then vertex_node c.args.v (state_at ss c.args.id) ∷ [] else [] in
    let cuts : List Node = map (edge_node f c.args.v) (filter (has_bit bits) (range_with_len 1 7)) in
    let at : vertex_at f.dims c.args.id ≡ c.args.v = ap (vertex_at f.dims) c.requires.id ∙ (vertex_at-id f.dims c.args.v c.requires.domain).1 in
    on_ok_weaker c.push_cuts.result
    (more_nodes c.args.frame.now c.args.out.now c.push_vertex.new.out c.push_cuts.new.out own cuts (map (node_of_key f ss) (keys_at f.dims ss c.args.id))
    (nodes_of_bits f ss c.args.starts.now c.args.v c.args.id bits c.requires.used c.requires.low c.requires.high at c.bits-bits.ensures)
    c.in_ok-push_vertex.ensures.adds)
    c.push_cuts.ensures.adds
