-- Every number of a plan fits the widest field: so it fits 64 bits. Assumes nothing.
use mathlib.Core.Path.{◌≡◌}
use mathlib.Core.Bool.{true}
use mathlib.Core.List.{List, [], ◌∷◌, ◌++◌}
use Prim.Native.Nat.{ℕ, zero, suc, ◌^◌, ◌≤◌, ◌<◌, zero-le}
use native.Mathlib.Nat.{pow-le-pow_right}
use native.Mathlib.Omega.{arith}
use lib.Dec.{lit<}
use lib.ListN.{get_or}
use Rattle.plan_format.specs.Grammar.{Check, Grammar, field, seq, counted, nothing, count_check}
use Rattle.plan_format.specs.Form.{first_form, second_form, list_form, form_in, point, mark, operation}
use Rattle.plan_format.specs.Form.{plan_grammar}
use Rattle.plan_format.specs.Stored.{all_bytes, scanned, listed}
use Rattle.plan_format.proofs.Parses.{Takes, ◌⊆◌, Exact, Nothing, Then, Holds, Parses, then_first, parsed_give}
use Rattle.plan_format.proofs.ParsedForms.{bytes_read, numbers_read}
use Rattle.plan_format.proofs.Forms.{form_cases, led_as}

-- no field is wider than n
abbrev pub Narrow : (n : ℕ) → Grammar → Type 0
Narrow n (field w c) = w ≤ n
Narrow n (seq g h) = Narrow n g × Narrow n h
Narrow n (counted l m w g) = (w ≤ n) × Narrow n g
Narrow n nothing = Unit {0}

-- every number is below 256 ^ n
abbrev pub Small : (n : ℕ) → Takes
Small n got vs ds = (i : ℕ) → get_or vs i 0 < 256 ^ n

module _ (n : ℕ) where
  small_none : Nothing ⊆ Small n
  small_none got vs ds p =
      rw p.numbers_are (λ i. omega (arith, pow-le-pow_right {n = 256} (lit< tt) {i = 0} {j = n} zero-le))

  small_append : (vs vs' : List ℕ) → ((i : ℕ) → get_or vs i 0 < 256 ^ n) → ((i : ℕ) → get_or vs' i 0 < 256 ^ n) →
      (i : ℕ) →
      get_or (vs ++ vs') i 0 < 256 ^ n
  small_append [] vs' a b i = b i
  small_append (v ∷ vs) vs' a b zero = a 0
  small_append (v ∷ vs) vs' a b (suc i) = small_append vs vs' (λ k. a (suc k)) b i

  small_field : (w : ℕ) (c : Check) (v : ℕ) → w ≤ n → Holds Exact w c v ⊆ Small n
  small_field w c v l got vs ds h = rw h.numbers_are (λ i. small i)
    where
      small : (i : ℕ) → get_or (v ∷ []) i 0 < 256 ^ n
      small zero = omega (arith, h.spelt.fits, pow-le-pow_right {n = 256} (lit< tt) l)
      small (suc i) = omega (arith, pow-le-pow_right {n = 256} (lit< tt) {i = 0} {j = n} zero-le)

  -- what a grammar with no wider field takes is small
  abbrev If : Type 0 → Takes
  If A got vs ds = A → Small n got vs ds

  small_then : (A B C : Type 0) → (C → A) → (C → B) → Then (If A) (If B) ⊆ If C
  small_then A B C a b got vs ds p c =
      rw p.numbers_are (small_append p.vs₁ p.vs₂ (p.first (a c)) (p.second (b c)))

  small_counted : (l m w : ℕ) (g : Grammar) (k : ℕ) →
      Then (Holds Exact w (λ _ v. count_check l m v) k) (If (Narrow n g)) ⊆ If (Narrow n (counted l m w g))
  small_counted l m w g k got vs ds p =
      let c : Check = λ _ v. count_check l m v in
      small_then (w ≤ n) (Narrow n g) (Narrow n (counted l m w g)) (λ z. z.0) (λ z. z.1) got vs ds
      (then_first (Holds Exact w c k) (If (w ≤ n)) (If (Narrow n g))
      (λ got vs ds h z. small_field w c k z got vs ds h) got vs ds p)

  small : (g : Grammar) → Parses Exact g ⊆ If (Narrow n g)
  small = parsed_give Exact (λ g. If (Narrow n g)) (λ g k. If (Narrow n g)) (record {
    of_field = λ w c v got vs ds h z. small_field w c v z got vs ds h;
    of_seq = λ g h. small_then (Narrow n g) (Narrow n h) (Narrow n (seq g h)) (λ z. z.0) (λ z. z.1);
    of_counted = small_counted;
    of_nothing = λ got vs ds p z. small_none got vs ds p;
    of_none = λ g got vs ds p z. small_none got vs ds p;
    of_more = λ g k. small_then (Narrow n g) (Narrow n g) (Narrow n g) (λ z. z) (λ z. z);
  })

  pub parsed_small : (g : Grammar) → Narrow n g → Parses Exact g ⊆ Small n
  parsed_small g z got vs ds p = small g got vs ds p z

narrow_in : (bs : List ℕ) → Narrow 8 (plan_grammar (form_in bs))
unfolding plan_grammar operation point mark first_form second_form
narrow_in = form_cases (λ F. Narrow 8 (plan_grammar F)) (omega arith) (omega arith)

list_narrow : Narrow 8 (plan_grammar list_form)
unfolding plan_grammar operation point mark list_form
list_narrow = omega arith

pub scanned_small : (bs : List ℕ) → all_bytes bs ≡ true → (scanned bs).fault.number ≡ 0 → (i : ℕ) →
    get_or (scanned bs).got i 0 < 2 ^ 64
unfolding scanned
scanned_small bs b e =
    let (ds, p, is) = bytes_read (form_in bs) bs b (led_as bs) e in
    parsed_small 8 (plan_grammar (form_in bs)) (narrow_in bs) [] (scanned bs).got ds p

pub listed_small : (xs : List ℕ) → (listed xs).fault.number ≡ 0 → (i : ℕ) → get_or xs i 0 < 2 ^ 64
unfolding listed
listed_small xs e =
    let (ds, p) = numbers_read list_form xs e in parsed_small 8 (plan_grammar list_form) list_narrow [] xs ds p
