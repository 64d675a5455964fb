-- What a survey knows of the mesh of its field.
use Rattle.std.proofs.Common.{◌≡◌, ℕ, List, All, sym, subst, ap, ◌∙◌}
use Rattle.definitions.specs.declared.Dims.{Dims}
use Rattle.definitions.specs.declared.State.{State}
use Rattle.definitions.specs.Mesh.{ArePadded, Mesh, all_pieces, mesh}
use Rattle.definitions.specs.States.{Shares, IsShares, states}
use Rattle.definitions.specs.Values.{Field}
use Rattle.bcc_lattice.specs.declared.Layout.{Layout}
use Rattle.bcc_lattice.specs.Layouts.{IsLayout}
use Rattle.formats.specs.declared.Frame.{Frame}
use Rattle.formats.specs.Frames.{IsFrame}
use Rattle.node_ele_write.specs.Printable.{IsPrintable}
use Rattle.node_laws.proofs.Padding.{states_are_padded}
use Rattle.place_laws.proofs.NodePlaces.{nodes_stand_inside}
use Rattle.mesh_lists.specs.Parts.{mesh_of, numbered}
use Rattle.mesh_lists.proofs.Meshes.{mesh_by_states}
use Rattle.slab_texts.specs.Texts.{IsMeasured}
use Rattle.mesh_rounds.proofs.Totals.{mesh_measured}
use Rattle.slab_emit.specs.Sources.{AreMeasured, FitSource}
use Rattle.vertex_numbers.specs.declared.LayerCount.{LayerCount}
use Rattle.vertex_numbers.specs.Counts.{layer_counts}
use Rattle.slab_work.specs.Surveyed.{AreKept}
use Rattle.slab_work.proofs.Printing.{printable}

-- the nodes of the mesh can be printed
pub mesh_printable : (frame : Frame) (f : Field) (s : Shares) → IsFrame frame → AreKept frame.step f.dims → All (IsPrintable frame) (mesh_of f (states f s)).places
mesh_printable frame f s is kept =
    subst (λ (m : Mesh). All (IsPrintable frame) m.places) (sym (mesh_by_states f s))
    (λ k p lt. printable frame f.dims _ is kept (nodes_stand_inside f s k p lt))

-- all its tetrahedra can be measured
measured : (f : Field) (s : Shares) (h : Field) (ss : List State) (slab : ℕ) → IsShares s → h ≡ f → ss ≡ states f s → AreMeasured (record { field = h; states = ss; slab = slab })
measured f s h ss slab ok e k = subst (λ (m : Mesh). All (IsMeasured m.places) m.tets) (sym (λ i. mesh_of (e i) (k i))) (mesh_measured f s ok)

-- a source of a survey's values
pub fits : (f : Field) (s : Shares) (h : Field) (ss : List State) (dims : Dims) (counts : List LayerCount) (l : Layout) → IsShares s → h ≡ f → ss ≡ states f s → dims ≡ f.dims → counts ≡ layer_counts f.dims (states f s) → l.dims ≡ f.dims → IsLayout l.dims l.slab
    → FitSource (record { field = h; states = ss; slab = l.slab }) dims counts
fits f s h ss dims counts l ok e k d n m is = record {
  sizes = d ∙ ap (λ (x : Field). x.dims) (sym e);
  padded = subst (λ (x : Field). ArePadded x.dims ss) (sym e) (subst (λ (xs : List State). ArePadded f.dims xs) (sym k) (states_are_padded f s));
  offsets = n ∙ sym (λ i. layer_counts (e i).dims (k i));
  layout = subst (λ (x : Dims). IsLayout x l.slab) (m ∙ ap (λ (x : Field). x.dims) (sym e)) is;
  measured = measured f s h ss l.slab ok e k;
}

-- its tetrahedra, by the states
pub padded : (f : Field) (s : Shares) (d : Dims) (ss : List State) → d ≡ f.dims → ss ≡ states f s → ArePadded d ss
padded f s d ss e k = subst (λ (x : Dims). ArePadded x ss) (sym e) (subst (λ (xs : List State). ArePadded f.dims xs) (sym k) (states_are_padded f s))

pub tets_are : (f : Field) (s : Shares) (d : Dims) (ss : List State) → d ≡ f.dims → ss ≡ states f s → numbered d ss (all_pieces d ss) ≡ (mesh f s).tets
unfolding mesh
tets_are f s d ss e k = λ i. numbered (e i) (k i) (all_pieces (e i) (k i))
