-- The mesh that a command makes is sound, its extremes bound its angles, and its neighbours are mutual, since the shares that words give are within their limits.
use Rattle.std.proofs.Common.{◌≡◌, ℕ, ℤ, pos, ◌≤◌, List, [], ◌∷◌, Bool, true, false, Some, arith, refl, subst, sym}
use Rattle.std.specs.Prelude.{cond, find, option_map, unsigned_abs}
use Rattle.std.specs.List.{AllZip}
use Rattle.definitions.specs.Values.{Field}
use Rattle.definitions.specs.States.{Shares, IsShares}
use Rattle.command_line.specs.declared.Name.{Name}
use Rattle.command_line.specs.declared.Name.TheVariants.{Long, Short}
use Rattle.command_line.specs.declared.Verb.{Verb}
use Rattle.command_line.specs.declared.Verb.TheVariants.{Count, Mesh, Demo, Audit, Probe, Stream}
use Rattle.command_line.specs.Grammar.{Command, Reads, Setting, ReadsSetting, IsValue, Value, Number, Point, command_of, is_of, number_in, shares_of, value_or}
use Rattle.command_words.proofs.NamedWords.{same_is}
use Rattle.sound_laws.proofs.Sound.{mesh_is_sound}
use Rattle.mesh_texts.specs.Report.{mesh_extremes}
use Rattle.angle_laws.specs.Bounds.{BoundsAngles}
use Rattle.angle_laws.proofs.MeshBounds.{angles_are_bounded}
use Rattle.definitions.specs.Mesh.{mesh}
use Rattle.stuff.specs.Outputs.{AreJoinedFor, IsBoundedFor, IsSoundFor, usual_shares}
use Rattle.stuff.proofs.MeshTriangles.{are_joined}

-- a number that a name is set to is within the limit of its values
value_within : (n : Name) (high : ℕ) (default : ℤ) → ((text : List ℕ) (value : Value) → IsValue n text value → unsigned_abs (number_in (Some value) default) ≤ high) → unsigned_abs default ≤ high → (named : List (List ℕ)) (settings : List Setting) → AllZip ReadsSetting named settings →
    unsigned_abs (value_or settings n default) ≤ high
value_within n high default h d [] [] r = d
value_within n high default h d [] (s ∷ ss) r = absurd r
value_within n high default h d (w ∷ ws) [] r = absurd r
value_within n high default h d (w ∷ ws) (s ∷ ss) r = go (is_of n s) refl (value_within n high default h d ws ss r.1)
  where
    go : (b : Bool) → is_of n s ≡ b → unsigned_abs (value_or ss n default) ≤ high → unsigned_abs (number_in (option_map (λ (t : Setting). t.value) (cond b (Some s) (find (is_of n) ss))) default) ≤ high
    go true e k = h r.0.text s.value (subst (λ m. IsValue m r.0.text s.value) (sym (same_is n s.name e)) r.0.value_is)
    go false e k = k

long_limit : (text : List ℕ) (value : Value) → IsValue Long text value → unsigned_abs (number_in (Some value) (pos 1023)) ≤ 1023
long_limit text (Number value) v = subst (λ z. unsigned_abs z ≤ 1023) (sym v.4) v.2
long_limit text (Point p) v = absurd v

short_limit : (text : List ℕ) (value : Value) → IsValue Short text value → unsigned_abs (number_in (Some value) (pos 1687)) ≤ 2047
short_limit text (Number value) v = subst (λ z. unsigned_abs z ≤ 2047) (sym v.4) v.2
short_limit text (Point p) v = absurd v

usual_within : IsShares usual_shares
usual_within = record { long = omega arith; short = omega arith }

set_within : (named : List (List ℕ)) (settings : List Setting) → AllZip ReadsSetting named settings → IsShares (shares_of settings)
set_within named settings r = record {
  long = value_within Long 1023 (pos 1023) long_limit (omega arith) named settings r;
  short = value_within Short 2047 (pos 1687) short_limit (omega arith) named settings r;
}

sound_of_verb : (v : Verb) (named : List (List ℕ)) (settings : List Setting) → AllZip ReadsSetting named settings → (f : Field) → IsSoundFor (command_of v settings) f
sound_of_verb Count named settings r f = tt
sound_of_verb Mesh named settings r f = mesh_is_sound f (shares_of settings) (set_within named settings r)
sound_of_verb Demo named settings r f = mesh_is_sound f usual_shares usual_within
sound_of_verb Audit named settings r f = tt
sound_of_verb Probe named settings r f = mesh_is_sound f (shares_of settings) (set_within named settings r)
sound_of_verb Stream named settings r f = mesh_is_sound f (shares_of settings) (set_within named settings r)

pub made_sound : (words : List (List ℕ)) (c : Command) → Reads words c → (f : Field) → IsSoundFor c f
made_sound words c r f = subst (λ d. IsSoundFor d f) (sym r.command_is) (sound_of_verb r.verb r.named r.settings r.named_are f)

bounded : (f : Field) (s : Shares) → IsShares s → BoundsAngles (mesh_extremes (mesh f s)) (mesh f s)
unfolding mesh_extremes
bounded f s small = angles_are_bounded f s small

bounded_of_verb : (v : Verb) (named : List (List ℕ)) (settings : List Setting) → AllZip ReadsSetting named settings → (f : Field) → IsBoundedFor (command_of v settings) f
bounded_of_verb Count named settings r f = tt
bounded_of_verb Mesh named settings r f = bounded f (shares_of settings) (set_within named settings r)
bounded_of_verb Demo named settings r f = bounded f usual_shares usual_within
bounded_of_verb Audit named settings r f = tt
bounded_of_verb Probe named settings r f = tt
bounded_of_verb Stream named settings r f = bounded f (shares_of settings) (set_within named settings r)

pub made_bounded : (words : List (List ℕ)) (c : Command) → Reads words c → (f : Field) → IsBoundedFor c f
made_bounded words c r f = subst (λ d. IsBoundedFor d f) (sym r.command_is) (bounded_of_verb r.verb r.named r.settings r.named_are f)

joined_of_verb : (v : Verb) (named : List (List ℕ)) (settings : List Setting) → AllZip ReadsSetting named settings → (f : Field) → AreJoinedFor (command_of v settings) f
joined_of_verb Count named settings r f = tt
joined_of_verb Mesh named settings r f = are_joined f (shares_of settings) (set_within named settings r)
joined_of_verb Demo named settings r f = tt
joined_of_verb Audit named settings r f = tt
joined_of_verb Probe named settings r f = tt
joined_of_verb Stream named settings r f = are_joined f (shares_of settings) (set_within named settings r)

pub made_joined : (words : List (List ℕ)) (c : Command) → Reads words c → (f : Field) → AreJoinedFor c f
made_joined words c r f = subst (λ d. AreJoinedFor d f) (sym r.command_is) (joined_of_verb r.verb r.named r.settings r.named_are f)
