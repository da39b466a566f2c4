-- One field, read without a fault; what a count's check asks; the sources whose fields are read as they are shown.
-- Assumes nothing.
use mathlib.Core.Path.{◌≡◌, refl}
use mathlib.Core.Bool.{Bool, true, false, cond}
use mathlib.Core.List.{List, [], ◌∷◌, ◌++◌}
use Prim.Native.Nat.{ℕ, ◌+◌, ◌≤◌}
use native.Mathlib.Omega.{arith}
use lib.Dec.{ltb, eqb}
use lib.ListN.{length, take, drop}
use borrow.Author.Tests.{ltb-false, le-ltb, eqb-true, eqb-false, eq-eqb}
use Rattle.base_lists.proofs.Tests.{by_cases, is_true}
use Rattle.plan_format.specs.Refusal.{refusal}
use Rattle.plan_format.specs.Grammar.{Source, bytes, Scan, scan, refused, field_number, read_field, count_check}
use Rattle.plan_format.proofs.Judged.{zero_not_given}
use Rattle.plan_format.proofs.Faults.{field_began}
use Rattle.plan_format.proofs.Parses.{Spelt}

-- 1 for a field that the bytes end in, whatever it holds
cut_short : field_number bytes 2 (λ _. 4) (0 ∷ []) ≡ 1
unfolding field_number bytes
cut_short = refl

-- a source shows the numbers vs, spelled as the bytes ds, in a way of its own, and reads back what it shows
pub record Lawful (S : Source) (D : Spelt) : Type 1 where
  pub view : (vs ds : List ℕ) → List ℕ
  pub view_nil : view [] [] ≡ []
  pub view_append : (vs vs' ds ds' : List ℕ) → view (vs ++ vs') (ds ++ ds') ≡ view vs ds ++ view vs' ds'
  pub wide_is : (w v : ℕ) (ds : List ℕ) → D w v ds → length (view (v ∷ []) ds) ≡ S.wide w
  pub front_is : (w v : ℕ) (ds more : List ℕ) → D w v ds → S.front w (view (v ∷ []) ds ++ more) ≡ v
  pub fits_is : (w v : ℕ) (ds : List ℕ) → D w v ds → S.fits w v ≡ true
  pub Clean : List ℕ → Type 0
  pub clean_drop : (n : ℕ) (xs : List ℕ) → Clean xs → Clean (drop n xs)
  pub taken : (w : ℕ) (xs : List ℕ) → Clean xs → S.wide w ≤ length xs → S.fits w (S.front w xs) ≡ true →
      (ds : List ℕ) × D w (S.front w xs) ds × (take (S.wide w) xs ≡ view (S.front w xs ∷ []) ds)

judged_zero : (short fits : Bool) (n : ℕ) → cond short 1 (cond (eqb n 0) (cond fits 0 4) n) ≡ 0 →
    (short ≡ false) × (n ≡ 0) × (fits ≡ true)
judged_zero true fits n e = absurd (omega arith)
judged_zero false fits n e =
    by_cases (eqb n 0) (λ t. (refl, eqb-true n 0 t, is_true fits (λ f. let z : 4 ≡ 0 = rw (t, f) at e in omega arith)))
    (λ f. absurd (eqb-false n 0 f (rw f at e)))

module _ (S : Source) (w : ℕ) (c : ℕ → ℕ) where
  pub record ReadsField (s t : Scan) : Type 0 where
    pub begun : s.fault.number ≡ 0
    pub long : S.wide w ≤ length s.rest
    pub passes : c (S.front w s.rest) ≡ 0
    pub fits : S.fits w (S.front w s.rest) ≡ true
    pub result : t ≡ scan (drop (S.wide w) s.rest) (s.place + S.wide w)
        (s.got ++ (S.front w s.rest ∷ [])) s.fault

  field_zero : (r : List ℕ) → S.wide w ≤ length r → c (S.front w r) ≡ 0 → S.fits w (S.front w r) ≡ true →
      field_number S w c r ≡ 0
  unfolding field_number
  field_zero r l p f = rw (le-ltb (length r) (S.wide w) l, eq-eqb (c (S.front w r)) 0 p, f)

  pub field_reads : (s : Scan) → s.fault.number ≡ 0 → S.wide w ≤ length s.rest → c (S.front w s.rest) ≡ 0 →
      S.fits w (S.front w s.rest) ≡ true →
      read_field S w c s ≡ scan (drop (S.wide w) s.rest) (s.place + S.wide w)
      (s.got ++ (S.front w s.rest ∷ [])) s.fault
  unfolding read_field
  field_reads s e l p f =
      rw (zero_not_given s.fault e, eq-eqb (field_number S w c s.rest) 0 (field_zero s.rest l p f))

  field_number_zero : (s : Scan) → (read_field S w c s).fault.number ≡ 0 → field_number S w c s.rest ≡ 0
  unfolding read_field refused refusal scan
  field_number_zero s e =
      let b = field_began S w c s e in
      by_cases (eqb (field_number S w c s.rest) 0) (λ t. eqb-true (field_number S w c s.rest) 0 t)
      (λ n. rw (zero_not_given s.fault b, n) at e)

  pub field_done : (s : Scan) → (read_field S w c s).fault.number ≡ 0 → ReadsField s (read_field S w c s)
  unfolding field_number
  field_done s e =
      let v = S.front w s.rest in
      let b = field_began S w c s e in
      let t = judged_zero (ltb (length s.rest) (S.wide w)) (S.fits w v) (c v) (field_number_zero s e) in
      let l = ltb-false (length s.rest) (S.wide w) t.0 in
      record { begun = b; long = l; passes = t.1; fits = t.2; result = field_reads s b l t.1 t.2 }

-- a count within its limits
module _ (l m v : ℕ) where
  pub count_limits : count_check l m v ≡ 0 → (l ≤ v) × (v ≤ m)
  unfolding count_check
  count_limits e =
      by_cases (ltb v l) (λ t. absurd (let z : 2 ≡ 0 = rw t at e in omega arith)) (λ f.
      by_cases (ltb m v) (λ t. absurd (let z : 2 ≡ 0 = rw (f, t) at e in omega arith))
      (λ g. (ltb-false v l f, ltb-false m v g)))

  pub count_passes : l ≤ v → v ≤ m → count_check l m v ≡ 0
  unfolding count_check
  count_passes a b = rw (le-ltb v l a, le-ltb m v b)
