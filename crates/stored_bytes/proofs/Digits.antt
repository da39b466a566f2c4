-- The bytes of a number, put at a place of an array. Assumes nothing.
use Rattle.std.proofs.Common.{◌≡◌, refl, sym, ap, ◌∙◌, arith, ℕ, zero, suc, ◌+◌, ◌-◌, ◌≤◌, ◌/◌, ◌^◌}
use Rattle.std.proofs.Common.{List, ◌++◌, length, take, drop}
use Rattle.std.proofs.Math.Nat.{div-div-eq-div-mul, pow-suc}
use Rattle.std.proofs.lemmas.List.{drop_all, append-nil, length-drop, length-take-le}
use Rattle.std.proofs.lemmas.Slice.{take-put_mid, drop-put_mid}
use borrow.Rule.Slice.PartMut.{put_mid, same_len_mid}
use Rattle.std.specs.Int.{bytes_low_first}
use Rattle.byteorder.specs.Numbers.{length-bytes_low_first}
use Rattle.plan_format.specs.Grammar.{digits}
use Rattle.stored_bytes.specs.Writing.{NumberPut}

next_digits : (i v : ℕ) → v / 256 ^ i / 256 ≡ v / 256 ^ suc i
next_digits i v = rw (div-div-eq-div-mul v (256 ^ i) 256, pow-suc 256 i) refl

-- the digits of a number above its lowest `i` are its bytes from place `i`
digits_bytes : (i w v : ℕ) → digits w (v / 256 ^ i) ≡ bytes_low_first i w v
unfolding digits
digits_bytes i zero v = refl
digits_bytes zero (suc w) v =
    rw (← digits_bytes 1 w v) (let e : v / 1 ≡ v = omega arith in rw e refl)
digits_bytes (suc i) (suc w) v =
    rw (next_digits (suc i) v, digits_bytes (suc (suc i)) w v) refl

pub bytes_are : (w v : ℕ) → bytes_low_first 0 w v ≡ digits w v
bytes_are w v = sym (digits_bytes 0 w v) ∙ ap (λ (x : ℕ). digits w x) (let e : v / 1 ≡ v = omega arith in e)

pub number_put : (w at v : ℕ) (bytes : List ℕ) {part : List ℕ} → at + w ≤ length bytes →
    part ≡ bytes_low_first 0 w v ++ drop w (take (at + w - at) (drop at bytes)) →
    NumberPut w bytes at v (put_mid at (at + w - at) bytes part)
number_put w at v bytes {part} h e =
    let mid : length (take (at + w - at) (drop at bytes)) ≡ at + w - at =
    length-take-le (at + w - at) (drop at bytes) (omega (arith, length-drop at bytes)) in
    let same : part ≡ digits w v =
    e ∙ rw (
      drop_all w (take (at + w - at) (drop at bytes)) (omega (arith, mid)),
      append-nil (bytes_low_first 0 w v),
    ) (bytes_are w v) in
    let long : length part ≡ at + w - at =
    ap length (same ∙ sym (bytes_are w v)) ∙ length-bytes_low_first 0 w v ∙ omega arith in
    record {
      front = take-put_mid at (at + w - at) bytes part (at + w) (omega (arith, long)) (omega arith)
          ∙ ap (λ (l : List ℕ). take at bytes ++ l) same;
      as_long = same_len_mid at (at + w - at) bytes part (long ∙ sym mid);
      past = drop-put_mid at (at + w - at) bytes part (at + w) (omega arith) (omega arith) long;
    }
