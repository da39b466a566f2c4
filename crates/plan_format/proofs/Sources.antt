-- Bytes and lists of numbers are lawful sources. Assumes nothing.
use mathlib.Core.Path.{◌≡◌, refl, sym, ap, ◌∙◌}
use mathlib.Core.Bool.{true}
use mathlib.Core.List.{List, [], ◌∷◌, ◌++◌}
use Prim.Native.Nat.{ℕ, ◌^◌, ◌≤◌}
use native.Mathlib.Nat.{not-suc-le-zero}
use lib.ListN.{length, get_or, take}
use lib.Seq.{length-take-le, take_at}
use borrow.Author.Tests.{ltb-true, lt-ltb}
use Rattle.plan_format.specs.Grammar.{value, digits, bytes, numbers}
use Rattle.plan_format.specs.Stored.{all_bytes}
use Rattle.plan_format.proofs.Bytes.{length_digits, value_digits, value_below, digits_value, bytes_drop}
use Rattle.plan_format.proofs.Parses.{Exact, Loose}
use Rattle.plan_format.proofs.Fields.{Lawful}

-- bytes are shown as they are spelled
unfoldable pub exact_bytes : Lawful bytes Exact
unfolding bytes
exact_bytes = record {
  view = λ vs ds. ds;
  view_nil = refl;
  view_append = λ vs vs' ds ds'. refl;
  wide_is = λ w v ds d. ap length d.bytes_are ∙ length_digits w v;
  front_is = λ w v ds more d. ap (λ z. value (take w (z ++ more))) d.bytes_are ∙ value_digits w v more d.fits;
  fits_is = λ w v ds d. refl;
  Clean = λ xs. all_bytes xs ≡ true;
  clean_drop = bytes_drop;
  taken = λ w xs c l f.
      (take w xs, record { fits = value_below w xs c; bytes_are = sym (digits_value w xs c l) }, refl);
}

unfoldable pub loose_bytes : Lawful bytes Loose
unfolding bytes
loose_bytes = record {
  view = λ vs ds. ds;
  view_nil = refl;
  view_append = λ vs vs' ds ds'. refl;
  wide_is = λ w v ds d. d.long;
  front_is = λ w v ds more d. ap value (take_at ds more w d.long) ∙ d.value_is;
  fits_is = λ w v ds d. refl;
  Clean = λ xs. Unit {0};
  clean_drop = λ n xs c. tt;
  taken = λ w xs c l f. (take w xs, record { long = length-take-le w xs l; value_is = refl }, refl);
}

pub first_of : (xs : List ℕ) → 1 ≤ length xs → take 1 xs ≡ get_or xs 0 0 ∷ []
first_of [] l = absurd (not-suc-le-zero l)
first_of (x ∷ xs) l = refl

-- numbers are shown as themselves
unfoldable pub exact_numbers : Lawful numbers Exact
unfolding numbers
exact_numbers = record {
  view = λ vs ds. vs;
  view_nil = refl;
  view_append = λ vs vs' ds ds'. refl;
  wide_is = λ w v ds d. refl;
  front_is = λ w v ds more d. refl;
  fits_is = λ w v ds d. lt-ltb v (256 ^ w) d.fits;
  Clean = λ xs. Unit {0};
  clean_drop = λ n xs c. tt;
  taken = λ w xs c l f. (
    digits w (get_or xs 0 0),
    record { fits = ltb-true (get_or xs 0 0) (256 ^ w) f; bytes_are = refl },
    first_of xs l,
  );
}
