-- Laws of text put into a buffer: piece after piece.
--   put-none     == the empty text leaves the buffer as it was
--   put_then     == one text put after another is both put as one
--   put_part     == a part of the buffer that is overwritten by a text
--   put_as       == an equal text is put alike
--   put-length   == the buffer is as long as before
--   put_front    == what then stands before the end: what stood before the text, and the text
--   put_rest     == what stands from the end on is what stood there
-- Assumes nothing.
use mathlib.Core.Path.{◌≡◌, refl, sym, ap, ap₂, ◌∙◌}
use mathlib.Core.List.{List, [], ◌++◌, append_assoc}
use Prim.Native.Nat.{ℕ, ◌+◌, ◌≤◌}
use native.Mathlib.Nat.{add-zero}
use native.Mathlib.Omega.{arith}
use borrow.Rule.Slice.PartMut.{put_mid}
use lib.ListN.{length, take, drop, length-append}
use lib.Seq.{sets, length-sets, sets-eq, take_at, drop_at, drop-drop, length-take-le}
use Rattle.counting.proofs.Stores.{sets-append}
use Rattle.program_numerals.specs.Texts.{Put}

-- no text
pub put-none : (at : ℕ) (out : List ℕ) → Put [] at out out at
put-none at out = record { bytes = refl; ends = sym (add-zero at) }

-- one text after another
pub put_then : {s t : List ℕ} {at mid end : ℕ} {a b c : List ℕ} → Put s at a b mid → Put t mid b c end → Put (s ++ t) at a c end
put_then {s} {t} {at} {mid} {end} {a} {b} {c} p q =
    record {
      bytes = q.bytes ∙ ap (λ (x : List ℕ). sets x mid t) p.bytes ∙ ap (λ (x : ℕ). sets (sets a at s) x t) p.ends ∙ sym (sets-append a at s t);
      ends = omega (arith, p.ends, q.ends, length-append s t);
    }

-- a part that is overwritten by a text
pub put_part : {t x out : List ℕ} {at k : ℕ} → at + length t ≤ length out → k ≡ length t → x ≡ t → Put t at out (put_mid at k out x) (at + length t)
put_part {t} {x} {out} {at} {k} h e q =
    record {
      bytes =
          rw (e, q)
          (ap (λ (y : List ℕ). take at out ++ (t ++ y)) (drop-drop (length t) at out)
          ∙ sym (append_assoc (take at out) t (drop (at + length t) out)) ∙ sym (sets-eq t out at h));
      ends = refl;
    }

-- an equal text
pub put_as : {s t : List ℕ} {at end : ℕ} {a b : List ℕ} → s ≡ t → Put s at a b end → Put t at a b end
put_as e p = rw e at p

-- the buffer is as long as before
pub put-length : {s : List ℕ} {at end : ℕ} {a b : List ℕ} → Put s at a b end → length b ≡ length a
put-length {s} {at} {end} {a} p = ap length p.bytes ∙ length-sets a at s

-- what then stands before the end: what stood before the text, and the text
pub put_front : {t : List ℕ} {at end : ℕ} {a b : List ℕ} → at + length t ≤ length a → Put t at a b end → take end b ≡ take at a ++ t
put_front {t} {at} {end} {a} h p =
    let l : length (take at a ++ t) ≡ at + length t = length-append (take at a) t ∙ omega (arith, length-take-le at a (omega arith)) in
    ap₂ take p.ends (p.bytes ∙ sets-eq t a at h) ∙ take_at (take at a ++ t) _ (at + length t) l

-- what stands from the end on is what stood there
pub put_rest : {t : List ℕ} {at end : ℕ} {a b : List ℕ} → at + length t ≤ length a → Put t at a b end → drop end b ≡ drop end a
put_rest {t} {at} {end} {a} h p =
    let l : length (take at a ++ t) ≡ at + length t = length-append (take at a) t ∙ omega (arith, length-take-le at a (omega arith)) in
    ap₂ drop p.ends (p.bytes ∙ sets-eq t a at h)
    ∙ drop_at (take at a ++ t) _ (at + length t) l
    ∙ ap (λ (x : ℕ). drop x a) (sym p.ends)
