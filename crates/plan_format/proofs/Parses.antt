-- What a grammar takes: after the numbers `got`, the numbers `vs`, spelled as the bytes `ds`. Assumes nothing.
use mathlib.Core.Path.{◌≡◌}
use mathlib.Core.List.{List, [], ◌∷◌, ◌++◌}
use Prim.Native.Nat.{ℕ, zero, suc, ◌^◌, ◌<◌}
use lib.ListN.{length}
use Rattle.plan_format.specs.Grammar.{Check, Grammar, field, seq, counted, nothing, value, digits, count_check}

abbrev pub Takes : Type 1
Takes = (got vs ds : List ℕ) → Type 0

-- whatever P takes, Q takes
infix 40 ◌⊆◌
abbrev pub ◌⊆◌ : Takes → Takes → Type 0
P ⊆ Q = (got vs ds : List ℕ) → P got vs ds → Q got vs ds

-- how bytes of a width spell a number
abbrev pub Spelt : Type 1
Spelt = (w v : ℕ) (ds : List ℕ) → Type 0

pub record Exact (w v : ℕ) (ds : List ℕ) : Type 0 where
  pub fits : v < 256 ^ w
  pub bytes_are : ds ≡ digits w v

-- as a reading sees them, also where an element is no byte
pub record Loose (w v : ℕ) (ds : List ℕ) : Type 0 where
  pub long : length ds ≡ w
  pub value_is : value ds ≡ v

pub record Nothing (got vs ds : List ℕ) : Type 0 where
  pub numbers_are : vs ≡ []
  pub bytes_are : ds ≡ []

pub record Then (P Q : Takes) (got vs ds : List ℕ) : Type 0 where
  pub vs₁ : List ℕ
  pub vs₂ : List ℕ
  pub ds₁ : List ℕ
  pub ds₂ : List ℕ
  pub first : P got vs₁ ds₁
  pub second : Q (got ++ vs₁) vs₂ ds₂
  pub numbers_are : vs ≡ vs₁ ++ vs₂
  pub bytes_are : ds ≡ ds₁ ++ ds₂

abbrev pub Many : Takes → (k : ℕ) → Takes
Many P zero = Nothing
Many P (suc k) = Then P (Many P k)

module _ (D : Spelt) where
  -- a field that holds the number v
  pub record Holds (w : ℕ) (c : Check) (v : ℕ) (got vs ds : List ℕ) : Type 0 where
    pub passes : c got v ≡ 0
    pub spelt : D w v ds
    pub numbers_are : vs ≡ v ∷ []

  pub record Field (w : ℕ) (c : Check) (got vs ds : List ℕ) : Type 0 where
    pub number : ℕ
    pub holds : Holds w c number got vs ds

  pub record Counted (l m w : ℕ) (P : Takes) (got vs ds : List ℕ) : Type 0 where
    pub count : ℕ
    pub parts : Then (Holds w (λ _ v. count_check l m v) count) (Many P count) got vs ds

  abbrev pub Parses : Grammar → Takes
  Parses (field w c) = Field w c
  Parses (seq g h) = Then (Parses g) (Parses h)
  Parses (counted l m w g) = Counted l m w (Parses g)
  Parses nothing = Nothing

-- ---- induction: what fields give, and what goes on through sequences and entries, all that parses gives
pub record Inductive (D : Spelt) (R : Grammar → Takes) (M : Grammar → (k : ℕ) → Takes) : Type 0 where
  pub of_field : (w : ℕ) (c : Check) (v : ℕ) → Holds D w c v ⊆ R (field w c)
  pub of_seq : (g h : Grammar) → Then (R g) (R h) ⊆ R (seq g h)
  pub of_counted : (l m w : ℕ) (g : Grammar) (k : ℕ) →
      Then (Holds D w (λ _ v. count_check l m v) k) (M g k) ⊆ R (counted l m w g)
  pub of_nothing : Nothing ⊆ R nothing
  pub of_none : (g : Grammar) → Nothing ⊆ M g 0
  pub of_more : (g : Grammar) (k : ℕ) → Then (R g) (M g k) ⊆ M g (suc k)

then_mono : (P Q P' Q' : Takes) → P ⊆ P' → Q ⊆ Q' → Then P Q ⊆ Then P' Q'
then_mono P Q P' Q' a b got vs ds p = record {
  vs₁ = p.vs₁;
  vs₂ = p.vs₂;
  ds₁ = p.ds₁;
  ds₂ = p.ds₂;
  first = a got p.vs₁ p.ds₁ p.first;
  second = b (got ++ p.vs₁) p.vs₂ p.ds₂ p.second;
  numbers_are = p.numbers_are;
  bytes_are = p.bytes_are;
}

pub then_first : (P P' Q : Takes) → P ⊆ P' → Then P Q ⊆ Then P' Q
then_first P P' Q a = then_mono P Q P' Q a (λ _ _ _ q. q)

module _ (D : Spelt) (R : Grammar → Takes) (M : Grammar → (k : ℕ) → Takes) (I : Inductive D R M) where
  many_give : (g : Grammar) → Parses D g ⊆ R g → (k : ℕ) → Many (Parses D g) k ⊆ M g k
  many_give g h zero = I.of_none g
  many_give g h (suc k) = λ got vs ds p. I.of_more g k got vs ds
      (then_mono (Parses D g) (Many (Parses D g) k) (R g) (M g k) h (many_give g h k) got vs ds p)

  pub parsed_give : (g : Grammar) → Parses D g ⊆ R g
  parsed_give (field w c) = λ got vs ds p. I.of_field w c p.number got vs ds p.holds
  parsed_give (seq g h) = λ got vs ds p. I.of_seq g h got vs ds
      (then_mono (Parses D g) (Parses D h) (R g) (R h) (parsed_give g) (parsed_give h) got vs ds p)
  parsed_give (counted l m w g) = λ got vs ds p.
      let k = p.count in
      let H : Takes = Holds D w (λ _ v. count_check l m v) k in
      I.of_counted l m w g k got vs ds
      (then_mono H (Many (Parses D g) k) H (M g k) (λ _ _ _ q. q) (many_give g (parsed_give g) k) got vs ds p.parts)
  parsed_give nothing = I.of_nothing
