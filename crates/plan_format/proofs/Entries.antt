-- Entries of one field each, and of two fields each: as many numbers as there are fields, each passing its check.
-- Assumes nothing.
use mathlib.Core.Path.{◌≡◌, sym, ap, ◌∙◌, subst}
use mathlib.Core.List.{List, [], ◌∷◌, ◌++◌, append_assoc, append-nil}
use Prim.Native.Nat.{ℕ, zero, suc, ◌+◌, ◌*◌, ◌≤◌, ◌<◌}
use native.Mathlib.Nat.{not-suc-le-zero, le_of_suc-le-suc}
use native.Mathlib.Omega.{arith}
use lib.ListN.{length, get_or, take}
use Rattle.plan_format.specs.Grammar.{Check}
use Rattle.plan_format.proofs.Parses.{Takes, Spelt, Then, Many, Field, Counted}
use Rattle.plan_format.proofs.Fields.{count_limits}

-- the numbers of k fields in a row, each checked after those before it
pub record Row (c : Check) (got : List ℕ) (k : ℕ) (vs : List ℕ) : Type 0 where
  pub long : length vs ≡ k
  pub pass : (i : ℕ) → i < k → c (got ++ take i vs) (get_or vs i 0) ≡ 0

-- the numbers of k pairs in a row
pub record Pairs (P Q : ℕ → Type 0) (k : ℕ) (vs : List ℕ) : Type 0 where
  pub long : length vs ≡ 2 * k
  pub firsts : (i : ℕ) → i < k → P (get_or vs (2 * i) 0)
  pub seconds : (i : ℕ) → i < k → Q (get_or vs (2 * i + 1) 0)

row_cons : (c : Check) (got : List ℕ) (k v : ℕ) (vs : List ℕ) → c got v ≡ 0 → Row c (got ++ (v ∷ [])) k vs →
    Row c got (suc k) (v ∷ vs)
row_cons c got k v vs e r = record { long = ap suc r.long; pass = pass }
  where
    pass : (i : ℕ) → i < suc k → c (got ++ take i (v ∷ vs)) (get_or (v ∷ vs) i 0) ≡ 0
    pass zero l = rw append-nil e
    pass (suc i) l = ap (λ z. c z (get_or vs i 0)) (sym (append_assoc got (v ∷ []) (take i vs)))
        ∙ r.pass i (le_of_suc-le-suc l)

pub row_head : (c : Check) (got : List ℕ) (k v : ℕ) (vs : List ℕ) → Row c got (suc k) (v ∷ vs) → c got v ≡ 0
row_head c got k v vs r = rw append-nil at (r.pass 0 (omega arith))

pub row_tail : (c : Check) (got : List ℕ) (k v : ℕ) (vs : List ℕ) → Row c got (suc k) (v ∷ vs) →
    Row c (got ++ (v ∷ [])) k vs
row_tail c got k v vs r = record {
  long = omega (arith, r.long);
  pass = λ i l. ap (λ z. c z (get_or vs i 0)) (append_assoc got (v ∷ []) (take i vs)) ∙ r.pass (suc i) (omega arith);
}

pairs_cons : (P Q : ℕ → Type 0) (k a b : ℕ) (vs : List ℕ) → P a → Q b → Pairs P Q k vs → Pairs P Q (suc k) (a ∷ b ∷ vs)
pairs_cons P Q k a b vs p q r = record { long = omega (arith, r.long); firsts = firsts; seconds = seconds }
  where
    firsts : (i : ℕ) → i < suc k → P (get_or (a ∷ b ∷ vs) (2 * i) 0)
    firsts zero l = p
    firsts (suc i) l = subst (λ z. P (get_or (a ∷ b ∷ vs) z 0)) (let e : suc (suc (2 * i)) ≡ 2 * suc i =
        omega arith in e)
        (r.firsts i (le_of_suc-le-suc l))

    seconds : (i : ℕ) → i < suc k → Q (get_or (a ∷ b ∷ vs) (2 * i + 1) 0)
    seconds zero l = q
    seconds (suc i) l =
        subst (λ z. Q (get_or (a ∷ b ∷ vs) z 0)) (let e : suc (suc (2 * i + 1)) ≡ 2 * suc i + 1 = omega arith in e)
        (r.seconds i (le_of_suc-le-suc l))

-- a count within its limits, and as many entries
pub record Listing (l m : ℕ) (P : Takes) (got vs : List ℕ) : Type 0 where
  pub count : ℕ
  pub least : l ≤ count
  pub most : count ≤ m
  pub entries : List ℕ
  pub spelling : List ℕ
  pub many : Many P count (got ++ (count ∷ [])) entries spelling
  pub numbers_are : vs ≡ count ∷ entries

module _ (D : Spelt) where
  pub listing : (l m w : ℕ) (P : Takes) (got vs ds : List ℕ) → Counted D l m w P got vs ds → Listing l m P got vs
  listing l m w P got vs ds p =
      let b = p.parts in
      let c = count_limits l m p.count b.first.passes in
      record {
        count = p.count;
        least = c.0;
        most = c.1;
        entries = b.vs₂;
        spelling = b.ds₂;
        many = subst (λ z. Many P p.count (got ++ z) b.vs₂ b.ds₂) b.first.numbers_are b.second;
        numbers_are = b.numbers_are ∙ ap (λ z. z ++ b.vs₂) b.first.numbers_are;
      }

  pub many_fields : (w : ℕ) (c : Check) (k : ℕ) (got vs ds : List ℕ) → Many (Field D w c) k got vs ds → Row c got k vs
  many_fields w c zero got vs ds p =
      record { long = ap length p.numbers_are; pass = λ i l. absurd (not-suc-le-zero l) }
  many_fields w c (suc k) got vs ds p =
      let f = p.first.holds in
      rw (p.numbers_are, f.numbers_are)
      (row_cons c got k p.first.number p.vs₂ f.passes
      (many_fields w c k (got ++ (p.first.number ∷ [])) p.vs₂ p.ds₂
      (subst (λ z. Many (Field D w c) k (got ++ z) p.vs₂ p.ds₂) f.numbers_are p.second)))

  -- a check says P or Q wherever G holds of the numbers read before, and G stays
  module _ (G : List ℕ → Type 0) (stays : (got vs : List ℕ) → G got → G (got ++ vs)) (P Q : ℕ → Type 0) (w₁ w₂ : ℕ)
      (c₁ c₂ : Check)
      (is_P : (got : List ℕ) (v : ℕ) → G got → c₁ got v ≡ 0 → P v)
      (is_Q : (got : List ℕ) (v : ℕ) → G got → c₂ got v ≡ 0 → Q v) where
    pub many_pairs : (k : ℕ) (got vs ds : List ℕ) → G got →
        Many (Then (Field D w₁ c₁) (Field D w₂ c₂)) k got vs ds → Pairs P Q k vs
    many_pairs zero got vs ds g p =
        record {
          long = ap length p.numbers_are;
          firsts = λ i l. absurd (not-suc-le-zero l);
          seconds = λ i l. absurd (not-suc-le-zero l);
        }
    many_pairs (suc k) got vs ds g p =
        let x = p.first.first in
        let y = p.first.second in
        rw (p.numbers_are, p.first.numbers_are, x.holds.numbers_are, y.holds.numbers_are)
        (pairs_cons P Q k x.number y.number p.vs₂ (is_P got x.number g x.holds.passes)
        (is_Q (got ++ p.first.vs₁) y.number (stays got p.first.vs₁ g) y.holds.passes)
        (many_pairs k (got ++ p.vs₁) p.vs₂ p.ds₂ (stays got p.vs₁ g) p.second))
