-- How long a plan can be: at most so many bytes and so many numbers. Assumes nothing.
use mathlib.Core.Path.{◌≡◌, refl, ap, ◌∙◌}
use mathlib.Core.List.{List, [], ◌∷◌, ◌++◌}
use Prim.Native.Nat.{ℕ, suc, ◌+◌, ◌*◌, ◌≤◌, zero-le}
use native.Mathlib.Nat.{le_refl, suc-mul, mul-le-mul_right}
use native.Mathlib.Omega.{arith}
use lib.ListN.{length, length-append, length-drop}
use Rattle.plan_format.specs.Sizes.{block_bytes, plan_numbers, plan_bytes}
use Rattle.plan_format.specs.Refusal.{none_given}
use Rattle.plan_format.specs.Grammar.{Check, Grammar, field, seq, counted, nothing, bytes, numbers, count_check}
use Rattle.plan_format.specs.Grammar.{Scan, scan, most_bytes, most_numbers}
use Rattle.plan_format.specs.Form.{Form, first_form, second_form, list_form, form_in, point, mark, operation}
use Rattle.plan_format.specs.Form.{plan_grammar, scanned_by}
use Rattle.plan_format.specs.Stored.{scanned, listed, spelled}
use Rattle.plan_format.proofs.Bytes.{length_digits}
use Rattle.plan_format.proofs.Parses.{Takes, ◌⊆◌, Spelt, Exact, Loose, Nothing, Then, Holds, Parses, then_first}
use Rattle.plan_format.proofs.Parses.{parsed_give}
use Rattle.plan_format.proofs.Fields.{count_limits}
use Rattle.plan_format.proofs.Sources.{loose_bytes}
use Rattle.plan_format.proofs.Whole.{whole_of}
use Rattle.plan_format.proofs.ParsedForms.{numbers_read}
use Rattle.plan_format.proofs.Forms.{form_cases}
use Rattle.plan_format.proofs.RoundTrip.{scanned_spelled}

-- the most places that a grammar takes, where a field of a width takes so many
pub record Most (wide : ℕ → ℕ) : Type 0 where
  pub most : Grammar → ℕ
  pub field_is : (w : ℕ) (c : Check) → most (field w c) ≡ wide w
  pub seq_is : (g h : Grammar) → most (seq g h) ≡ most g + most h
  pub counted_is : (l m w : ℕ) (g : Grammar) → most (counted l m w g) ≡ wide w + m * most g
  pub nothing_is : most nothing ≡ 0

unfoldable pub bytes_most : Most (λ w. w)
unfolding most_bytes
bytes_most =
    record {
      most = most_bytes;
      field_is = λ w c. refl;
      seq_is = λ g h. refl;
      counted_is = λ l m w g. refl;
      nothing_is = refl;
    }

unfoldable pub numbers_most : Most (λ w. 1)
unfolding most_numbers
numbers_most = record {
  most = most_numbers;
  field_is = λ w c. refl;
  seq_is = λ g h. refl;
  counted_is = λ l m w g. refl;
  nothing_is = refl;
}

-- the places that numbers and their bytes take
record Measure (D : Spelt) (wide : ℕ → ℕ) : Type 0 where
  size : (vs ds : List ℕ) → ℕ
  size_none : size [] [] ≡ 0
  size_append : (vs vs' ds ds' : List ℕ) → size (vs ++ vs') (ds ++ ds') ≡ size vs ds + size vs' ds'
  size_field : (w v : ℕ) (ds : List ℕ) → D w v ds → size (v ∷ []) ds ≡ wide w

module _ (D : Spelt) (wide : ℕ → ℕ) (T : Most wide) (M : Measure D wide) where
  abbrev AtMost : (n : ℕ) → Takes
  AtMost n got vs ds = M.size vs ds ≤ n

  most_none : (n : ℕ) → Nothing ⊆ AtMost n
  most_none n got vs ds p = rw (p.numbers_are, p.bytes_are, M.size_none) zero-le

  most_then : (a b n : ℕ) → a + b ≤ n → Then (AtMost a) (AtMost b) ⊆ AtMost n
  most_then a b n l got vs ds p = rw (p.numbers_are, p.bytes_are, M.size_append p.vs₁ p.vs₂ p.ds₁ p.ds₂)
      (omega (arith, p.first, p.second))

  most_field : (w : ℕ) (c : Check) (v : ℕ) → Holds D w c v ⊆ AtMost (wide w)
  most_field w c v got vs ds h = rw (h.numbers_are, M.size_field w v ds h.spelt) (le_refl (wide w))

  most_counted : (l m w : ℕ) (g : Grammar) (k : ℕ) →
      Then (Holds D w (λ _ v. count_check l m v) k) (AtMost (k * T.most g)) ⊆ AtMost (T.most (counted l m w g))
  most_counted l m w g k got vs ds p =
      let c : Check = λ _ v. count_check l m v in
      most_then (wide w) (k * T.most g) (T.most (counted l m w g))
      (omega (arith, T.counted_is l m w g, mul-le-mul_right (T.most g) (count_limits l m k p.first.passes).1))
      got vs ds (then_first (Holds D w c k) (AtMost (wide w)) (AtMost (k * T.most g)) (most_field w c k) got vs ds p)

  parsed_size : (g : Grammar) → Parses D g ⊆ AtMost (T.most g)
  parsed_size = parsed_give D (λ g. AtMost (T.most g)) (λ g k. AtMost (k * T.most g)) (record {
    of_field = λ w c v. rw (T.field_is w c) (most_field w c v);
    of_seq = λ g h. most_then (T.most g) (T.most h) (T.most (seq g h)) (omega (arith, T.seq_is g h));
    of_counted = most_counted;
    of_nothing = most_none (T.most nothing);
    of_none = λ g. most_none (0 * T.most g);
    of_more = λ g k. most_then (T.most g) (k * T.most g) (suc k * T.most g) (omega (arith, suc-mul k (T.most g)));
  })

-- ---- bytes and numbers
number_measure : (D : Spelt) → Measure D (λ w. 1)
number_measure D = record {
  size = λ vs ds. length vs;
  size_none = refl;
  size_append = λ vs vs' ds ds'. length-append vs vs';
  size_field = λ w v ds d. refl;
}

byte_measure : (D : Spelt) → ((w v : ℕ) (ds : List ℕ) → D w v ds → length ds ≡ w) → Measure D (λ w. w)
byte_measure D long = record {
  size = λ vs ds. length ds;
  size_none = refl;
  size_append = λ vs vs' ds ds'. length-append ds ds';
  size_field = long;
}

module _ (g : Grammar) (got vs ds : List ℕ) where
  pub parsed_numbers : (D : Spelt) → Parses D g got vs ds → length vs ≤ most_numbers g
  unfolding number_measure numbers_most
  parsed_numbers D p = parsed_size D (λ w. 1) numbers_most (number_measure D) g got vs ds p

  pub exact_long : Parses Exact g got vs ds → length ds ≤ most_bytes g
  unfolding byte_measure bytes_most
  exact_long p =
      parsed_size Exact (λ w. w) bytes_most
      (byte_measure Exact (λ w v ds d. ap length d.bytes_are ∙ length_digits w v)) g got vs ds p

  pub loose_long : Parses Loose g got vs ds → length ds ≤ most_bytes g
  unfolding byte_measure bytes_most
  loose_long p = parsed_size Loose (λ w. w) bytes_most (byte_measure Loose (λ w v ds d. d.long)) g got vs ds p

-- ---- whole plans
module _ (F : Form) (bs : List ℕ) (e : (scanned_by bytes F bs).fault.number ≡ 0) where
  pub read_bytes_most : length bs ≤ length F.lead + most_bytes (plan_grammar F)
  unfolding loose_bytes bytes
  read_bytes_most =
      let w = whole_of bytes Loose loose_bytes F bs tt e in
      omega (
        arith,
        length-drop (1 * length F.lead) bs,
        ap length w.shown,
        loose_long (plan_grammar F) [] (scanned_by bytes F bs).got w.ds w.parsed,
      )

  pub read_numbers_most : length (scanned_by bytes F bs).got ≤ most_numbers (plan_grammar F)
  unfolding loose_bytes
  read_numbers_most = let w = whole_of bytes Loose loose_bytes F bs tt e in
      parsed_numbers (plan_grammar F) [] (scanned_by bytes F bs).got
      w.ds Loose w.parsed

module _ (F : Form) (xs : List ℕ) (e : (scanned_by numbers F xs).fault.number ≡ 0) where
  pub taken_numbers_most : length xs ≤ most_numbers (plan_grammar F)
  taken_numbers_most = let (ds, p) = numbers_read F xs e in parsed_numbers (plan_grammar F) [] xs ds Exact p

-- ---- R7, greatest sizes, of each form
pub longest_operation : most_bytes (operation second_form) ≡ block_bytes
unfolding most_bytes operation point mark second_form
longest_operation = refl

pub longest_first_operation : most_bytes (operation first_form) ≡ 61
unfolding most_bytes operation point mark first_form
longest_first_operation = refl

-- the bytes of a plan, the lead included, and its numbers
pub record Sized (F : Form) (bytes numbers : ℕ) : Type 0 where
  pub bytes_most : length F.lead + most_bytes (plan_grammar F) ≡ bytes
  pub numbers_most : most_numbers (plan_grammar F) ≡ numbers

pub first_sized : Sized first_form 63686 22868
unfolding most_bytes most_numbers plan_grammar operation point mark first_form
first_sized = record { bytes_most = refl; numbers_most = refl }

pub second_sized : Sized second_form plan_bytes plan_numbers
unfolding most_bytes most_numbers plan_grammar operation point mark second_form
second_sized = record { bytes_most = refl; numbers_most = refl }

pub longest_list : most_numbers (plan_grammar list_form) ≡ plan_numbers
unfolding most_numbers plan_grammar operation point mark list_form
longest_list = refl

-- no form has more than the second
pub record SizedWithin (F : Form) : Type 0 where
  pub bytes_within : length F.lead + most_bytes (plan_grammar F) ≤ plan_bytes
  pub numbers_within : most_numbers (plan_grammar F) ≤ plan_numbers

pub sized_in : (bs : List ℕ) → SizedWithin (form_in bs)
sized_in = form_cases SizedWithin
    (record {
      bytes_within = omega (arith, first_sized.bytes_most);
      numbers_within = omega (arith, first_sized.numbers_most);
    })
    (record {
      bytes_within = omega (arith, second_sized.bytes_most);
      numbers_within = omega (arith, second_sized.numbers_most);
    })

pub scanned_sizes : (bs : List ℕ) → (scanned bs).fault.number ≡ 0 →
    (length bs ≤ plan_bytes) × (length (scanned bs).got ≤ plan_numbers)
unfolding scanned
scanned_sizes bs e = (
  omega (arith, (sized_in bs).bytes_within, read_bytes_most (form_in bs) bs e),
  omega (arith, (sized_in bs).numbers_within, read_numbers_most (form_in bs) bs e),
)

pub listed_sizes : (xs : List ℕ) → (listed xs).fault.number ≡ 0 →
    (length xs ≤ plan_numbers) × (length (spelled xs) ≤ plan_bytes)
unfolding listed scan none_given
listed_sizes xs e = (
  rw longest_list at (taken_numbers_most list_form xs e),
  (scanned_sizes (spelled xs) (ap (λ (s : Scan). s.fault.number) (scanned_spelled xs e))).0,
)
