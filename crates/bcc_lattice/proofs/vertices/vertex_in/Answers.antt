use Rattle.std.proofs.Common.{◌≡◌, ◌+◌, ◌*◌, ◌/◌, ◌%◌, ◌∙◌, ℕ, sym, subst, ap}
use Rattle.definitions.specs.declared.Dims.{Dims}
use Rattle.definitions.specs.declared.Vertex.{Vertex}
use Rattle.definitions.specs.Lattice.{InDomain, vertex}
use Rattle.lattice_counts.specs.Counts.{before_in_layer, row_len, vertex_in_layer}
use Rattle.lattice_counts.proofs.Places.{place_of_row}
use Rattle.bcc_lattice.proofs.vertices.vertex_in.Goals as goal

-- the same vertex, by the number of vertices in a row
same : (d : Dims) (h p row : ℕ) (v : Vertex) → row ≡ row_len d.nx h → v ≡ vertex h (p / row * 2 + h % 2) (p % row * 2 + h % 2) → v ≡ vertex_in_layer d h p
same d h p row v e f = f ∙ (λ i. vertex h (p / e i * 2 + h % 2) (p % e i * 2 + h % 2))

pub returns-clause-domain : goal.returns-clause-domain
returns-clause-domain c =
    subst (InDomain c.args.dims) (sym (same c.args.dims c.args.place.h c.args.place.before c.columns-row.result c.vertex_in_row.result c.columns-row.ensures.columns c.vertex_in_row.ensures.vertex))
    (place_of_row c.args.dims c.args.place.h c.args.place.before c.requires.sizes c.requires.layer c.requires.place).domain

pub returns-clause-before : goal.returns-clause-before
returns-clause-before c =
    ap (before_in_layer c.args.dims) (same c.args.dims c.args.place.h c.args.place.before c.columns-row.result c.vertex_in_row.result c.columns-row.ensures.columns c.vertex_in_row.ensures.vertex)
    ∙ (place_of_row c.args.dims c.args.place.h c.args.place.before c.requires.sizes c.requires.layer c.requires.place).place
