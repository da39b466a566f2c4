-- Numbers in decimal: the number that digits give. Assumes nothing.
use mathlib.Core.Path.{◌≡◌, refl, ap, sym, ◌∙◌}
use mathlib.Core.Bool.{Bool, true, false, ◌&&◌}
use mathlib.Core.List.{List, [], ◌∷◌, ◌++◌}
use Prim.Native.Nat.{ℕ, zero, suc, ◌+◌, ◌-◌, ◌*◌, ◌<◌, ◌≤◌}
use native.Mathlib.Omega.{arith}
use native.Mathlib.Numerals.{add-one}
use lib.Dec.{ltb}
use lib.ListN.{length, take, get_or}
use lib.Seq.{take-suc, take_all}
use borrow.Author.Tests.{lt-ltb, le-ltb, le-leb, lt-leb, ltb-true, ltb-false}
use Rattle.base_lists.specs.Lists.{all}
use Rattle.base_lists.proofs.Tests.{by_cases, and_both, and_left, and_right}
use Rattle.base_decimal.specs.Decimal.{digit_test, digit_value, value_after, limited, word_of, digits_of, more_of}
use Rattle.base_decimal.specs.declared.NoNumber.TheVariants.{TooLarge, NotDecimal}
use Rattle.std.proofs.Common.{Option, Some, None, Ok, Err, SomeIff}

no_value : {x : ℕ} → Some x ≡ None → ⊥
no_value e = absurd (cc)

-- ---- digits

-- a byte's value tells whether it is a digit
pub digit_known : (b u : ℕ) → Some u ≡ digit_value b → (digit_test b ≡ true) × (u ≡ b - 48)
unfolding digit_value
digit_known b u h =
    by_cases (digit_test b)
    (λ t. (t, let e : Some u ≡ Some (b - 48) = rw t at h in cc))
    (λ n. absurd (let z : Some u ≡ None = rw n at h in no_value z))

pub digit_other : (b : ℕ) → None ≡ digit_value b → digit_test b ≡ false
unfolding digit_value
digit_other b h =
    by_cases (digit_test b) (λ t. absurd (let z : None ≡ Some (b - 48) = rw t at h in no_value (sym z))) (λ n. n)

pub value_inside : (b : ℕ) → 48 ≤ b → b ≤ 57 → Some (b - 48) ≡ digit_value b
unfolding digit_value
value_inside b l h = rw (le-ltb b 48 l, le-leb b 57 h)

pub value_below : (b : ℕ) → b < 48 → None ≡ digit_value b
unfolding digit_value
value_below b h = rw (lt-ltb b 48 h)

pub value_above : (b : ℕ) → 57 < b → None ≡ digit_value b
unfolding digit_value
value_above b h = rw (le-ltb b 48 (omega arith), lt-leb b 57 h)

over : (v : ℕ) → 18446744073709551615 < v → digits_of v ≡ None
unfolding digits_of
over v h = rw (lt-ltb 18446744073709551615 v h)

within : (v : ℕ) → v ≤ 18446744073709551615 → digits_of v ≡ Some v
unfolding digits_of
within v h = rw (le-ltb 18446744073709551615 v h)

-- digits that have a value below 2^64 hold it
holds : (x v : ℕ) → Some x ≡ digits_of v → (v ≤ 18446744073709551615) × (x ≡ v)
holds x v e =
    by_cases (ltb 18446744073709551615 v)
    (λ t. absurd (no_value (e ∙ over v (ltb-true 18446744073709551615 v t))))
    (λ f. let w = ltb-false 18446744073709551615 v f in
    (w, let z : Some x ≡ Some v = e ∙ within v w in cc))

beyond : (v : ℕ) → None ≡ digits_of v → 18446744073709551615 < v
beyond v e =
    by_cases (ltb 18446744073709551615 v)
    (λ t. ltb-true 18446744073709551615 v t)
    (λ f. absurd (no_value (sym (e ∙ within v (ltb-false 18446744073709551615 v f)))))

-- one digit more, of a product and a sum that are too large or not
pub more_past : (v u : ℕ) → (v * 10 < 18446744073709551616 → ⊥) → None ≡ more_of (Some v) u
unfolding more_of
more_past v u h = sym (over (10 * v + u) (grind (arith, h)))

pub more_sum : (v u : ℕ) {m w : ℕ} (r : Option ℕ) → m ≡ v * 10 → w ≡ u →
    SomeIff r (m + w < 18446744073709551616) (m + w) → r ≡ more_of (Some v) u
unfolding more_of
more_sum v u None e f h = sym (over (10 * v + u) (grind (arith, e, f, h)))
more_sum v u (Some x) e f h =
    ap Some (omega (arith, e, f, h.1)) ∙ sym (within (10 * v + u) (omega (arith, e, f, h.0)))

-- after the digits of a number
more_digits : (d : Option ℕ) (u v : ℕ) → d ≡ digits_of v → more_of d u ≡ digits_of (10 * v + u)
unfolding more_of
more_digits None u v e = sym (over (10 * v + u) (omega (arith, beyond v e)))
more_digits (Some x) u v e = rw (holds x v e).1

-- ---- words

value_append : (v : ℕ) (bs : List ℕ) (b : ℕ) → value_after v (bs ++ (b ∷ [])) ≡ 10 * value_after v bs + (b - 48)
unfolding value_after
value_append v [] b = refl
value_append v (x ∷ bs) b = value_append (10 * v + (x - 48)) bs b

all_more : (f : ℕ → Bool) (bs : List ℕ) (b : ℕ) → all f bs ≡ true → f b ≡ true → all f (bs ++ (b ∷ [])) ≡ true
unfolding all
all_more f [] b h t = and_both (f b) true t refl
all_more f (x ∷ bs) b h t =
    and_both (f x) (all f (bs ++ (b ∷ []))) (and_left (f x) (all f bs) h) (all_more f bs b (and_rest h) t)
  where
    and_rest : (f x && all f bs) ≡ true → all f bs ≡ true
    and_rest = and_right (f x) (all f bs)

all_at : (f : ℕ → Bool) (bs : List ℕ) (i : ℕ) → i < length bs → f (get_or bs i 0) ≡ false → all f bs ≡ false
unfolding all
all_at f [] i h n = absurd (omega arith)
all_at f (x ∷ bs) zero h n = rw n
all_at f (x ∷ bs) (suc i) h n = by_cases (f x) (λ t. rw t (all_at f bs i (omega arith) n)) (λ e. rw e)

-- the first digits of a word, read
pub record DigitsRead (text : List ℕ) (i : ℕ) (d : Option ℕ) : Type 0 where
  pub digits : all digit_test (take i text) ≡ true
  pub value : d ≡ digits_of (value_after 0 (take i text))

pub reads_none : (text : List ℕ) → DigitsRead text 0 (Some 0)
unfolding all value_after
reads_none text = record { digits = refl; value = sym (within 0 (omega arith)) }

pub reads_more :
    (text : List ℕ) (i : ℕ) (d r : Option ℕ) (u : ℕ) → i < length text → Some u ≡ digit_value (get_or text i 0) →
    DigitsRead text i d → r ≡ more_of d u → DigitsRead text (i + 1) r
reads_more text i d r u h t k step =
    let known = digit_known (get_or text i 0) u t in
    record {
      digits = rw (add-one, take-suc text i 0 h)
          (all_more digit_test (take i text) (get_or text i 0) k.digits known.0);
      value =
          rw (add-one, take-suc text i 0 h, value_append 0 (take i text) (get_or text i 0), ← known.1)
          (step ∙ more_digits d u (value_after 0 (take i text)) k.value);
    }

pub word_none : (limit : ℕ) (text : List ℕ) → length text ≡ 0 → Err NotDecimal ≡ word_of limit text
unfolding word_of
word_none limit [] h = refl
word_none limit (b ∷ bs) h = absurd (omega arith)

pub word_other : (limit : ℕ) (text : List ℕ) (i : ℕ) → i < length text → None ≡ digit_value (get_or text i 0) →
    Err NotDecimal ≡ word_of limit text
unfolding word_of
word_other limit [] i h n = absurd (omega arith)
word_other limit (b ∷ bs) i h n = rw (all_at digit_test (b ∷ bs) i h (digit_other (get_or (b ∷ bs) i 0) n))

word_whole :
    (limit : ℕ) (text : List ℕ) → 0 < length text → all digit_test text ≡ true →
    limited limit (value_after 0 text) ≡ word_of limit text
unfolding word_of
word_whole limit [] h t = absurd (omega arith)
word_whole limit (b ∷ bs) h t = rw t

-- the whole word, read
module _
    (limit : ℕ) (text : List ℕ) (i : ℕ) (d : Option ℕ) (some : 0 < length text) (end : length text ≤ i)
    (k : DigitsRead text i d)
    (wide : limit ≤ 18446744073709551615) where
  whole : limited limit (value_after 0 text) ≡ word_of limit text
  whole = word_whole limit text some (rw (take_all i text end) at k.digits)

  value : d ≡ digits_of (value_after 0 text)
  value = rw (take_all i text end) at k.value

  over_limit : limit < value_after 0 text → Err TooLarge ≡ word_of limit text
  unfolding limited
  over_limit h = rw (lt-ltb limit (value_after 0 text) h) at whole

  pub word_large : d ≡ None → Err TooLarge ≡ word_of limit text
  word_large large = over_limit (omega (arith, beyond (value_after 0 text) (sym large ∙ value)))

  pub word_over : (x : ℕ) → d ≡ Some x → limit < x → Err TooLarge ≡ word_of limit text
  word_over x small h = over_limit (omega (arith, (holds x (value_after 0 text) (sym small ∙ value)).1))

  pub word_number : (x : ℕ) → d ≡ Some x → x ≤ limit → Ok x ≡ word_of limit text
  unfolding limited
  word_number x small h =
      let e = (holds x (value_after 0 text) (sym small ∙ value)).1 in
      ap Ok e ∙ (rw (le-ltb limit (value_after 0 text) (omega (arith, e))) at whole)

pub word_limit : (limit v : ℕ) (text : List ℕ) → Ok v ≡ word_of limit text → v ≤ limit
unfolding word_of limited
word_limit limit v [] e = absurd (let z : ◌≡◌ {A = ℕ} 0 1 = cc in omega arith)
word_limit limit v (b ∷ bs) e =
    by_cases (all digit_test (b ∷ bs))
    (λ t. by_cases (ltb limit (value_after 0 (b ∷ bs)))
    (λ o. absurd (let f : Ok v ≡ Err TooLarge = rw (t, o) at e in let z : ◌≡◌ {A = ℕ} 0 1 = cc in omega arith))
    (λ w. let f : Ok v ≡ Ok (value_after 0 (b ∷ bs)) = rw (t, w) at e in
    let g : v ≡ value_after 0 (b ∷ bs) = cc in omega (arith, ltb-false limit (value_after 0 (b ∷ bs)) w)))
    (λ n. absurd (let f : Ok v ≡ Err NotDecimal = rw n at e in let z : ◌≡◌ {A = ℕ} 0 1 = cc in omega arith))
