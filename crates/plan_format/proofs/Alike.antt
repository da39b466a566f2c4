-- What was read stays in front, so grammars whose checks agree on every list that begins so read the same, and spell
-- the same: a check may take from the code what it asks of the numbers read. Assumes nothing.
use mathlib.Core.Path.{◌≡◌, refl, sym, ap, ◌∙◌, subst}
use mathlib.Core.Bool.{Bool, true, false, cond}
use mathlib.Core.List.{List, [], ◌∷◌, ◌++◌, append_assoc, append-nil}
use Prim.Native.Nat.{ℕ, zero, suc}
use lib.Dec.{eqb}
use lib.ListN.{get_or}
use Rattle.base_lists.proofs.Tests.{by_cases}
use Rattle.plan_format.specs.Refusal.{given}
use Rattle.plan_format.specs.Grammar.{Check, Grammar, field, seq, counted, nothing, Source, Scan, scan, refused}
use Rattle.plan_format.specs.Grammar.{field_number, read_field, last_got, times, count_check, read_by, Spelling}
use Rattle.plan_format.specs.Grammar.{spell_field, spell_by}
use Rattle.plan_format.proofs.Faults.{read_stays}
use Rattle.plan_format.proofs.Judged.{not_given_zero}
use Rattle.plan_format.proofs.Repeats.{field_same}

-- ---- what was read stays in front
abbrev pub Begins : (front got : List ℕ) → Type 0
Begins front got = (rest : List ℕ) × (got ≡ front ++ rest)

begins_more : (front got : List ℕ) (v : ℕ) → Begins front got → Begins front (got ++ (v ∷ []))
begins_more front got v b =
    (b.0 ++ (v ∷ []), ap (λ (l : List ℕ). l ++ (v ∷ [])) b.1 ∙ append_assoc front b.0 (v ∷ []))

times_keeps : {A : Type 0} (P : A → Type 0) (f : A → A) → ((s : A) → P s → P (f s)) → (k : ℕ) (s : A) → P s →
    P (times k f s)
unfolding times
times_keeps P f h zero s p = p
times_keeps P f h (suc k) s p = times_keeps P f h k (f s) (h s p)

times_same : {A : Type 0} (P : A → Type 0) (f g : A → A) → ((s : A) → P s → P (g s)) → ((s : A) → P s → f s ≡ g s) →
    (k : ℕ) (s : A) → P s → times k f s ≡ times k g s
unfolding times
times_same P f g h e zero s p = refl
times_same P f g h e (suc k) s p = rw (e s p) (times_same P f g h e k (g s) (h s p))

cond_keeps : {A : Type 0} (P : A → Type 0) (b : Bool) (x y : A) → P x → P y → P (cond b x y)
cond_keeps P true x y p q = p
cond_keeps P false x y p q = q

module _ (S : Source) (front : List ℕ) where
  abbrev pub On : Scan → Type 0
  On s = Begins front s.got

  pub field_keeps : (w : ℕ) (c : ℕ → ℕ) (s : Scan) → On s → On (read_field S w c s)
  unfolding read_field refused scan
  field_keeps w c s b =
      cond_keeps On (given s.fault) s _ b
      (cond_keeps On (eqb (field_number S w c s.rest) 0) _ _ (begins_more front s.got (S.front w s.rest) b) b)

  pub read_keeps : (g : Grammar) (s : Scan) → On s → On (read_by S g s)
  unfolding read_by
  read_keeps (field w c) s b = field_keeps w (λ v. c s.got v) s b
  read_keeps (seq g h) s b = read_keeps h (read_by S g s) (read_keeps g s b)
  read_keeps (counted l m w g) s b =
      let t = read_field S w (λ v. count_check l m v) s in
      let p = field_keeps w (λ v. count_check l m v) s b in
      cond_keeps On (given t.fault) t (times (last_got t) (λ u. read_by S g u) t) p
      (times_keeps On (λ u. read_by S g u) (λ u q. read_keeps g u q) (last_got t) t p)
  read_keeps nothing s b = b

-- ---- grammars whose checks agree on every list that begins so
pub data Alike (front : List ℕ) : Grammar → Grammar → Type 0 where
  field_alike : {w : ℕ} {c d : Check} → ((rest : List ℕ) (v : ℕ) → c (front ++ rest) v ≡ d (front ++ rest) v) →
      Alike front (field w c) (field w d)
  seq_alike : {g h i k : Grammar} → Alike front g h → Alike front i k → Alike front (seq g i) (seq h k)
  counted_alike : {l m w : ℕ} {g h : Grammar} → Alike front g h → Alike front (counted l m w g) (counted l m w h)
  nothing_alike : Alike front nothing nothing

module _ (S : Source) (front : List ℕ) where
  pub alike_read : {g h : Grammar} → Alike front g h → (s : Scan) → On S front s → read_by S g s ≡ read_by S h s
  unfolding read_by
  alike_read (field_alike {w} {c} {d} e) s b =
      field_same S w (λ v. c s.got v) (λ v. d s.got v) s
      (subst (λ (l : List ℕ). c l (S.front w s.rest) ≡ d l (S.front w s.rest)) (sym b.1)
      (e b.0 (S.front w s.rest)))
  alike_read (seq_alike {g} {h} {i} {k} p q) s b =
      rw (alike_read p s b) (alike_read q (read_by S h s) (read_keeps S front h s b))
  alike_read (counted_alike {l} {m} {w} {g} {h} p) s b =
      let t = read_field S w (λ v. count_check l m v) s in
      ap (λ (u : Scan). cond (given t.fault) t u)
      (times_same (On S front) (λ u. read_by S g u) (λ u. read_by S h u) (λ u q. read_keeps S front h u q)
      (λ u q. alike_read p u q) (last_got t) t
      (field_keeps S front w (λ v. count_check l m v) s b))
  alike_read nothing_alike s b = refl

-- where there is a fault already, nothing has to agree
pub alike_from : (S : Source) (g h : Grammar) (s : Scan) → (s.fault.number ≡ 0 → Alike s.got g h) →
    read_by S g s ≡ read_by S h s
alike_from S g h s a =
    by_cases (given s.fault) (λ y. read_stays S g s y ∙ sym (read_stays S h s y))
    (λ z. alike_read S s.got (a (not_given_zero s.fault z)) s ([], sym (append-nil s.got)))

-- a spelling asks nothing of a check
pub alike_spell : {front : List ℕ} {g h : Grammar} → Alike front g h → (s : Spelling) → spell_by g s ≡ spell_by h s
unfolding spell_by
alike_spell (field_alike e) s = refl
alike_spell (seq_alike {h = h} p q) s = rw (alike_spell p s) (alike_spell q (spell_by h s))
alike_spell (counted_alike {w = w} {g} {h} p) s =
    times_same (λ _. Unit {0}) (λ u. spell_by g u) (λ u. spell_by h u) (λ u _. tt)
    (λ u _. alike_spell p u) (get_or s.left 0 0) (spell_field w s) tt
alike_spell nothing_alike s = refl
