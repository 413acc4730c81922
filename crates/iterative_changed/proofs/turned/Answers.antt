-- `iterative_changed::turned` meets its contract: the ones of the turned places are counted, against an array of zeros. Assumes nothing.
use mathlib.Core.Path.{◌≡◌, sym, ap, ◌∙◌}
use Prim.Native.Nat.{ℕ, ◌*◌}
use native.Mathlib.Omega.{arith}
use lib.ListN.{length, take, replicate, length-take, length-replicate}
use Rattle.packed_word.specs.Paper.Packed.{bit_at, bytes_for, distance}
use Rattle.iterative_changed.proofs.Marks.{turned-places, packed-long, ones-turned}
use Rattle.iterative_changed.proofs.turned.Goals as goal

pub pack_into-requires : goal.pack_into-requires
pack_into-requires c =
    let s = c in
    (s.requires.0, omega (arith, s.requires.0), turned-places _ _ _ _ _ c.put_turned.ensures)

pub slice_bounds-differing-end : goal.slice_bounds-differing-end
slice_bounds-differing-end c =
    let places-long : length (take (bytes_for c.args.n) c.pack_into.new.w) ≡ bytes_for c.args.n = packed-long _ _ _ _ _ c.put_turned.ensures _ _ c.pack_into.ensures in
    sym (places-long)

pub slice_bounds-differing-end-2 : goal.slice_bounds-differing-end-2
slice_bounds-differing-end-2 c =
    let zeros-long : length (take (bytes_for c.args.n) (replicate {A = ℕ} 128 0)) ≡ bytes_for c.args.n = let h : length (replicate {A = ℕ} 128 0) ≡ 128 = length-replicate {A = ℕ} 128 0 in
    length-take (bytes_for c.args.n) (replicate {A = ℕ} 128 0) ∙ omega (arith, c.requires.0) in
    sym (zeros-long)

pub differing-requires : goal.differing-requires
differing-requires c =
    let places-long : length (take (bytes_for c.args.n) c.pack_into.new.w) ≡ bytes_for c.args.n = packed-long _ _ _ _ _ c.put_turned.ensures _ _ c.pack_into.ensures in
    let zeros-long : length (take (bytes_for c.args.n) (replicate {A = ℕ} 128 0)) ≡ bytes_for c.args.n = let h : length (replicate {A = ℕ} 128 0) ≡ 128 = length-replicate {A = ℕ} 128 0 in
    length-take (bytes_for c.args.n) (replicate {A = ℕ} 128 0) ∙ omega (arith, c.requires.0) in
    let p = c in
    (places-long ∙ sym (zeros-long), omega (arith, places-long, c.requires.0))

pub returns : goal.returns
returns c =
    let places-long : length (take (bytes_for c.args.n) c.pack_into.new.w) ≡ bytes_for c.args.n = packed-long _ _ _ _ _ c.put_turned.ensures _ _ c.pack_into.ensures in
    let p = c in
    let n = c.args.n in
    c.differing.ensures
    ∙ ap (λ (b : ℕ). distance (8 * b) (bit_at (take (bytes_for n) p.pack_into.new.w)) (bit_at (take (bytes_for n) (replicate 128 0)))) (places-long)
    ∙ ones-turned _ _ _ _ _ p.put_turned.ensures _ _ p.pack_into.ensures 128
