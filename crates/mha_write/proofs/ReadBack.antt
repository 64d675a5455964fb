-- The text of a volume reads as the volume.
use Rattle.std.proofs.Common.{◌≡◌, ℕ, ◌*◌, List, length, flat_map, Bool, false, nat_lt, if◌then◌else◌, refl, ap, sym, ◌∙◌, subst, arith}
use Rattle.std.proofs.lemmas.Grind.{common_steps}
use Rattle.std.proofs.Math.Nat.{mul_assoc}
use Rattle.std.proofs.Math.Seq.{drop-append_seam}
use Rattle.definitions.specs.Lattice.{dims, padded_product}
use Rattle.formats.specs.declared.Limits.{Limits}
use Rattle.formats.specs.Samples.{bytes_per_sample, sample_of_bytes}
use Rattle.formats.specs.Volumes.{Volume, IsVolume, VolumeAnswer, Large, EndsEarly, Whole, is_too_large, kept_dims, kept_samples, wanted_bytes, bytes_behind, volume_of, volume_answer}
use Rattle.mha_write.specs.Text.{sample_bytes, plain_head, mha_file}
use Rattle.mha_write.specs.ReadBack.{written_head, at_step_one, ReadsAs}
use Rattle.mha_write.proofs.HeadBack.{head_back}
use Rattle.mha_write.proofs.SamplesBack.{length_bytes, samples_back, kept_all, all_kept}

abbrev bytes_of_samples : Volume → List ℕ
bytes_of_samples v = flat_map (sample_bytes v.kind) v.samples

behind : (v : Volume) → bytes_behind (mha_file v) (written_head v) ≡ bytes_of_samples v
behind v = drop-append_seam (plain_head v.dims v.kind) (bytes_of_samples v)

samples_kept : (v : Volume) → IsVolume v → kept_samples (written_head v).head 1 (bytes_of_samples v) ≡ v.samples
unfolding kept_samples
samples_kept v h =
    let count : length v.samples ≡ v.dims.nx * (v.dims.ny * v.dims.nz) = h.whole ∙ mul_assoc v.dims.nx v.dims.ny v.dims.nz in
    all_kept (sample_of_bytes v.kind false (bytes_of_samples v)) v.dims.nx v.dims.ny v.dims.nz
    ∙ samples_back v.kind v.samples (v.dims.nx * (v.dims.ny * v.dims.nz)) count h.low h.high

volume_back : (v : Volume) → IsVolume v → volume_of (mha_file v) (written_head v) 1 ≡ at_step_one v
volume_back v h =
    let samples : kept_samples (written_head v).head 1 (bytes_behind (mha_file v) (written_head v)) ≡ v.samples = ap (λ (bytes : List ℕ). kept_samples (written_head v).head 1 bytes) (behind v) ∙ samples_kept v h in
    λ i. record { dims = dims (kept_all v.dims.nx i) (kept_all v.dims.ny i) (kept_all v.dims.nz i); step = 1; kind = v.kind; samples = samples i }

-- as many bytes as are wanted
bytes_wanted : (v : Volume) → IsVolume v → length (bytes_behind (mha_file v) (written_head v)) ≡ wanted_bytes (written_head v).head
bytes_wanted v h = ap length (behind v) ∙ length_bytes v.kind v.samples ∙ ap (λ (n : ℕ). n * bytes_per_sample v.kind) h.whole

not_less : (m n : ℕ) → m ≡ n → nat_lt m n ≡ false
not_less m n e = grind (arith, common_steps)

answered : (large early : Bool) (a b c : VolumeAnswer) → large ≡ false → early ≡ false → (if large then a else if early then b else c) ≡ c
answered large early a b c p q = rw (p, q) refl

answer_back : (v : Volume) → IsVolume v → (limits : Limits) → is_too_large limits (written_head v).head 1 ≡ false → volume_answer limits (mha_file v) (written_head v) 1 ≡ Whole (at_step_one v)
answer_back v h limits within =
    answered (is_too_large limits (written_head v).head 1) (nat_lt (length (bytes_behind (mha_file v) (written_head v))) (wanted_bytes (written_head v).head)) (Large (padded_product (kept_dims (written_head v).head 1))) (EndsEarly (length (bytes_behind (mha_file v) (written_head v))) (wanted_bytes (written_head v).head)) (Whole (volume_of (mha_file v) (written_head v) 1)) within (not_less (length (bytes_behind (mha_file v) (written_head v))) (wanted_bytes (written_head v).head) (bytes_wanted v h))
    ∙ ap Whole (volume_back v h)

pub reads_back : (v : Volume) → IsVolume v → (text : List ℕ) → text ≡ mha_file v → ReadsAs text v
reads_back v h text is = subst (λ (t : List ℕ). ReadsAs t v) (sym is) (record {
  head = λ world. head_back world v.dims v.kind (bytes_of_samples v) h.sizes;
  volume = volume_back v h;
  answer = answer_back v h;
})
