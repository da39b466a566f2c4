-- Grammars whose checks ask nothing of the numbers got: what was got before changes nothing of what they read. Assumes
-- nothing.
use mathlib.Core.Path.{◌≡◌, refl, sym, ap, ◌∙◌}
use mathlib.Core.Bool.{false, cond}
use mathlib.Core.List.{List, [], ◌∷◌, ◌++◌, append_assoc}
use Prim.Native.Nat.{ℕ, zero, suc, ◌+◌}
use lib.Dec.{eqb}
use lib.ListN.{drop}
use Rattle.base_lists.proofs.Tests.{by_cases}
use Rattle.plan_format.specs.Sizes.{least_wait, least_signal}
use Rattle.plan_format.specs.Refusal.{given}
use Rattle.plan_format.specs.Grammar.{Check, Grammar, field, seq, counted, Source, Scan, scan, refused, field_number}
use Rattle.plan_format.specs.Grammar.{read_field, last_got, times, count_check, read_by}
use Rattle.plan_format.specs.Form.{at_least}
use Rattle.plan_format.specs.Sections.{limited, point_below, mark_below, operation_below}
use Rattle.plan_format.proofs.Judged.{not_given_zero}
use Rattle.plan_format.proofs.Fields.{field_done}
use Rattle.plan_format.proofs.Reading.{last_is}
use Rattle.plan_format.proofs.Repeats.{field_same}

-- numbers in front of those that a scan has got
unfoldable pub after : (front : List ℕ) → Scan → Scan
after front s = scan s.rest s.place (front ++ s.got) s.fault

pub data Blind : Grammar → Type 0 where
  field_blind : {w : ℕ} {c : Check} → ((got more : List ℕ) (v : ℕ) → c got v ≡ c more v) → Blind (field w c)
  seq_blind : {g h : Grammar} → Blind g → Blind h → Blind (seq g h)
  counted_blind : {l m w : ℕ} {g : Grammar} → Blind g → Blind (counted l m w g)

module _ (S : Source) (front : List ℕ) where
  field_after : (w : ℕ) (c : ℕ → ℕ) (s : Scan) → read_field S w c (after front s) ≡ after front (read_field S w c s)
  unfolding read_field after scan refused
  field_after w c s =
      let v = S.front w s.rest in
      by_cases (given s.fault) (λ y. rw y)
      (λ n. by_cases (eqb (field_number S w c s.rest) 0)
      (λ t. rw (n, t) (ap (λ (l : List ℕ). scan (drop (S.wide w) s.rest) (s.place + S.wide w) l s.fault)
      (append_assoc front s.got (v ∷ []))))
      (λ f. rw (n, f)))

  -- a count just read is the last number got, whatever is in front
  last_after : (w : ℕ) (c : ℕ → ℕ) (s : Scan) → given (read_field S w c s).fault ≡ false →
      last_got (after front (read_field S w c s)) ≡ last_got (read_field S w c s)
  unfolding after scan
  last_after w c s n =
      let t = read_field S w c s in
      let v = S.front w s.rest in
      let got : t.got ≡ s.got ++ (v ∷ []) =
      ap (λ (z : Scan). z.got) (field_done S w c s (not_given_zero t.fault n)).result in
      let last : (l : List ℕ) → last_got (scan t.rest t.place (l ++ (v ∷ [])) t.fault) ≡ v =
      λ l. last_is t.rest l t.place v t.fault in
      ap (λ (l : List ℕ). last_got (scan t.rest t.place l t.fault))
      (ap (λ (l : List ℕ). front ++ l) got ∙ sym (append_assoc front s.got (v ∷ [])))
      ∙ last (front ++ s.got) ∙ sym (last s.got)
      ∙ ap (λ (l : List ℕ). last_got (scan t.rest t.place l t.fault)) (sym got)

  times_after : (f : Scan → Scan) → ((s : Scan) → f (after front s) ≡ after front (f s)) → (k : ℕ) (s : Scan) →
      times k f (after front s) ≡ after front (times k f s)
  unfolding times
  times_after f h zero s = refl
  times_after f h (suc k) s = ap (λ (z : Scan). times k f z) (h s) ∙ times_after f h k (f s)

  counted_after : (t : Scan) (f : Scan → Scan) →
      ((k : ℕ) (s : Scan) → times k f (after front s) ≡ after front (times k f s)) →
      (given t.fault ≡ false → last_got (after front t) ≡ last_got t) →
      cond (given (after front t).fault) (after front t) (times (last_got (after front t)) f (after front t)) ≡
      after front (cond (given t.fault) t (times (last_got t) f t))
  unfolding after scan
  counted_after t f h last =
      by_cases (given t.fault) (λ y. rw y)
      (λ n. rw n (ap (λ (k : ℕ). times k f (after front t)) (last n) ∙ h (last_got t) t))

  pub blind_read : {g : Grammar} → Blind g → (s : Scan) → read_by S g (after front s) ≡ after front (read_by S g s)
  unfolding read_by
  blind_read (field_blind {w} {c} e) s =
      field_same S w (λ v. c (after front s).got v)
      (λ v. c s.got v) (after front s) (e (after front s).got s.got (S.front w (after front s).rest))
      ∙ field_after w (λ v. c s.got v) s
  blind_read (seq_blind {g} {h} p q) s =
      ap (λ (z : Scan). read_by S h z) (blind_read p s) ∙ blind_read q (read_by S g s)
  blind_read (counted_blind {l} {m} {w} {g} p) s =
      let c : ℕ → ℕ = λ v. count_check l m v in
      let t = read_field S w c s in
      ap (λ (z : Scan). cond (given z.fault) z (times (last_got z) (λ u. read_by S g u) z)) (field_after w c s)
      ∙ counted_after t (λ u. read_by S g u) (times_after (λ u. read_by S g u) (blind_read p)) (last_after w c s)

pub operation_blind : (width q m b : ℕ) → Blind (operation_below width q m b)
unfolding operation_below point_below mark_below limited at_least
operation_blind width q m b =
    let points : (l : ℕ) → Blind (point_below width m l) =
    λ l. seq_blind (field_blind (λ _ _ _. refl)) (field_blind (λ _ _ _. refl)) in
    seq_blind (field_blind (λ _ _ _. refl))
    (seq_blind (counted_blind (points least_wait))
    (seq_blind (counted_blind (points least_signal))
    (counted_blind (seq_blind (field_blind (λ _ _ _. refl)) (field_blind (λ _ _ _. refl))))))
