-- Every reading takes a grammar or stops in it; the reader does the same. Assumes nothing.
use mathlib.Core.Path.{◌≡◌, refl, sym, ap, ◌∙◌, subst}
use mathlib.Core.Bool.{true, cond}
use mathlib.Core.Logic.{◌⊎◌, inl, inr}
use mathlib.Core.List.{List, [], ◌∷◌, ◌++◌}
use Prim.Native.Nat.{ℕ, zero, suc, ◌+◌, ◌<◌}
use native.Mathlib.Nat.{not-suc-le-zero, le_of_suc-le-suc}
use native.Mathlib.Omega.{arith}
use lib.Dec.{ltb, eqb}
use lib.ListN.{length, drop, length-drop}
use borrow.Author.Tests.{ltb-true, ltb-false, eqb-true, eqb-false, ne_eqb}
use Rattle.base_lists.proofs.Tests.{by_cases, either}
use Rattle.plan_format.specs.Refusal.{Refusal, refusal, given}
use Rattle.plan_format.specs.Grammar.{Grammar, field, seq, counted, nothing, Source, Scan, scan, refused}
use Rattle.plan_format.specs.Grammar.{field_number, read_field, last_got, times, count_check, read_by}
use Rattle.plan_format.specs.Meaning.{FieldMeans, Cursor, TakesField, StopsField, Repeated, Reads, Stops}
use Rattle.plan_format.proofs.Judged.{zero_not_given, refusal_given}
use Rattle.plan_format.proofs.Faults.{times_stays, read_stays}
use Rattle.plan_format.proofs.Fields.{field_reads}
use Rattle.plan_format.proofs.Reading.{last_is}
use Rattle.plan_format.proofs.ChecksMeaning.{field_means}

module _ (S : Source) where
  -- ---- a reading goes through or stops
  abbrev Through : (R : Cursor → Cursor → Type 0) → (T : Cursor → Cursor → ℕ → Type 0) → Cursor → Type 0
  Through R T a = ((b : Cursor) × R a b) ⊎ ((b : Cursor) × (n : ℕ) × T a b n)

  through_field : (w : ℕ) (c : ℕ → ℕ) (a : Cursor) → Through (TakesField S w c) (StopsField S w c) a
  through_field w c a =
      let r = a.rest in
      let v = S.front w r in
      let n = field_number S w c r in
      let m = field_means S w c r in
      let stop : (k : ℕ) → n ≡ k → (k ≡ 0 → ⊥) → Through (TakesField S w c) (StopsField S w c) a =
      λ k e h. inr (a, n, record { here = refl; given = λ z. h (sym e ∙ z); why = m }) in
      by_cases (ltb (length r) (S.wide w))
      (λ t. stop 1 (m.cut_short (ltb-true (length r) (S.wide w) t)) (λ z. omega arith))
      (λ f. let long = ltb-false (length r) (S.wide w) f in
      by_cases (eqb (c v) 0)
      (λ t. let zero_is = eqb-true (c v) 0 t in
      by_cases (S.fits w v)
      (λ u. inl (
        record { rest = drop (S.wide w) r; place = a.place + S.wide w; got = a.got ++ (v ∷ []) },
        record { long = long; passes = zero_is; fits = u; next = refl },
      ))
      (λ u. stop 4 (m.too_wide long zero_is u) (λ z. omega arith)))
      (λ t. let bad = eqb-false (c v) 0 t in stop (c v) (m.judged long bad) bad))

  -- some entries, one after another
  abbrev StopsAmong : (R : Cursor → Cursor → Type 0) → (T : Cursor → Cursor → ℕ → Type 0) → (k : ℕ) → (a b : Cursor) →
      (n : ℕ) → Type 0
  StopsAmong R T k a b n = (d : Cursor) × (j : ℕ) × (j < k) × Repeated R j a d × T d b n

  through_times : (R : Cursor → Cursor → Type 0) (T : Cursor → Cursor → ℕ → Type 0) → ((a : Cursor) → Through R T a) →
      (k : ℕ) (a : Cursor) →
      Through (Repeated R k) (StopsAmong R T k) a
  through_times R T h zero a = inl (a, refl)
  through_times R T h (suc k) a =
      either (h a)
      (λ x. either (through_times R T h k x.0) (λ y. inl (y.0, (x.0, x.1, y.1)))
      (λ y. let z = y.2 in inr (y.0, y.1, (z.0, suc z.1, omega (arith, z.2), (x.0, x.1, z.3), z.4))))
      (λ x. inr (x.0, x.1, (a, 0, omega arith, refl, x.2)))

  pub through : (g : Grammar) (a : Cursor) → Through (λ x y. Reads S g x y) (λ x y n. Stops S g x y n) a
  through (field w c) a = through_field w (λ v. c a.got v) a
  through (seq g h) a =
      either (through g a)
      (λ x. either (through h x.0) (λ y. inl (y.0, (x.0, x.1, y.1)))
      (λ y. inr (y.0, y.1, inr (x.0, x.1, y.2))))
      (λ x. inr (x.0, x.1, inl x.2))
  through (counted l m w g) a =
      either (through_field w (λ v. count_check l m v) a)
      (λ x.
      either (through_times (λ x y. Reads S g x y) (λ x y n. Stops S g x y n) (through g) (S.front w a.rest) x.0)
      (λ y. inl (y.0, (x.0, x.1, y.1)))
      (λ y. let z = y.2 in inr (y.0, y.1, inr (x.0, z.0, z.1, x.1, z.2, z.3, z.4))))
      (λ x. inr (x.0, x.1, inl x.2))
  through nothing a = inl (a, refl)

  -- ---- a reading that stops has a number; no place is passed over
  pub stops_given : (g : Grammar) (a b : Cursor) (n : ℕ) → Stops S g a b n → n ≡ 0 → ⊥
  stops_given (field w c) a b n t = t.given
  stops_given (seq g h) a b n x = either x (λ t. stops_given g a b n t) (λ t. stops_given h t.0 b n t.2)
  stops_given (counted l m w g) a b n x = either x (λ t. t.given) (λ t. stops_given g t.1 b n t.6)
  stops_given nothing a b n x = absurd x

  abbrev Level : (a b : Cursor) → Type 0
  Level a b = b.place + length b.rest ≡ a.place + length a.rest

  level_field : (w : ℕ) (c : ℕ → ℕ) (a b : Cursor) → TakesField S w c a b → Level a b
  level_field w c a b t =
      ap (λ (z : Cursor). z.place + length z.rest) t.next
      ∙ omega (arith, t.long, length-drop (S.wide w) a.rest)

  level_times : (R : Cursor → Cursor → Type 0) → ((a b : Cursor) → R a b → Level a b) → (k : ℕ) (a b : Cursor) →
      Repeated R k a b → Level a b
  level_times R h zero a b e = ap (λ (z : Cursor). z.place + length z.rest) e
  level_times R h (suc k) a b x = level_times R h k x.0 b x.2 ∙ h a x.0 x.1

  pub reads_level : (g : Grammar) (a b : Cursor) → Reads S g a b → Level a b
  reads_level (field w c) a b t = level_field w (λ v. c a.got v) a b t
  reads_level (seq g h) a b x = reads_level h x.0 b x.2 ∙ reads_level g a x.0 x.1
  reads_level (counted l m w g) a b x =
      level_times (λ c d. Reads S g c d) (reads_level g) (S.front w a.rest) x.0 b x.2
      ∙ level_field w (λ v. count_check l m v) a x.0 x.1
  reads_level nothing a b e = ap (λ (z : Cursor). z.place + length z.rest) e

  pub stops_level : (g : Grammar) (a b : Cursor) (n : ℕ) → Stops S g a b n → Level a b
  stops_level (field w c) a b n t = ap (λ (z : Cursor). z.place + length z.rest) t.here
  stops_level (seq g h) a b n (inl t) = stops_level g a b n t
  stops_level (seq g h) a b n (inr t) = stops_level h t.0 b n t.2 ∙ reads_level g a t.0 t.1
  stops_level (counted l m w g) a b n (inl t) = ap (λ (z : Cursor). z.place + length z.rest) t.here
  stops_level (counted l m w g) a b n (inr t) =
      stops_level g t.1 b n t.6 ∙ level_times (λ c d. Reads S g c d) (reads_level g) t.2 t.0 t.1 t.5
      ∙ level_field w (λ v. count_check l m v) a t.0 t.3
  stops_level nothing a b n x = absurd x

-- ---- the reader does the same
abbrev pub at : Cursor → Refusal → Scan
at a f = scan a.rest a.place a.got f

module _ (S : Source) (w : ℕ) (c : ℕ → ℕ) (r : List ℕ) where
  -- one number is what a field's meaning says
  number_one : (n : ℕ) → FieldMeans S w c r n → field_number S w c r ≡ n
  number_one n m =
      let v = S.front w r in
      let k = field_means S w c r in
      by_cases (ltb (length r) (S.wide w))
      (λ t. let h = ltb-true (length r) (S.wide w) t in k.cut_short h ∙ sym (m.cut_short h))
      (λ f. let long = ltb-false (length r) (S.wide w) f in
      by_cases (eqb (c v) 0)
      (λ t. let z = eqb-true (c v) 0 t in
      by_cases (S.fits w v) (λ u. k.passed long z u ∙ sym (m.passed long z u))
      (λ u. k.too_wide long z u ∙ sym (m.too_wide long z u)))
      (λ t. let bad = eqb-false (c v) 0 t in k.judged long bad ∙ sym (m.judged long bad)))

module _ (S : Source) (f : Refusal) (begun : f.number ≡ 0) where
  takes_back : (w : ℕ) (c : ℕ → ℕ) (a b : Cursor) → TakesField S w c a b → read_field S w c (at a f) ≡ at b f
  unfolding scan
  takes_back w c a b t = field_reads S w c (at a f) begun t.long t.passes t.fits
      ∙ ap (λ (z : Cursor). at z f) (sym t.next)

  stops_back_field : (w : ℕ) (c : ℕ → ℕ) (a b : Cursor) (n : ℕ) → StopsField S w c a b n →
      read_field S w c (at a f) ≡ at b (refusal n b.place)
  unfolding read_field refused scan
  stops_back_field w c a b n t =
      rw (zero_not_given f begun, number_one S w c a.rest n t.why, ne_eqb n 0 t.given)
      (ap (λ (z : Cursor). at z (refusal n z.place)) (sym t.here))

  -- the entries after a count
  count_on : (w v : ℕ) (c : ℕ → ℕ) (a b : Cursor) (go : Scan → Scan) → v ≡ S.front w a.rest →
      TakesField S w c a b →
      (let t = read_field S w c (at a f) in cond (given t.fault) t (times (last_got t) go t)) ≡ times v go (at b f)
  unfolding scan
  count_on w v c a b go e t =
      let last : last_got (at b f) ≡ v =
      ap (λ (z : Cursor). last_got (at z f)) t.next
      ∙ last_is (drop (S.wide w) a.rest) a.got (a.place + S.wide w) (S.front w a.rest) f ∙ sym e in
      ap (λ (z : Scan). cond (given z.fault) z (times (last_got z) go z)) (takes_back w c a b t)
      ∙ rw (zero_not_given f begun, last)

  times_back : (R : Cursor → Cursor → Type 0) (go : Scan → Scan) → ((a b : Cursor) → R a b → go (at a f) ≡ at b f) →
      (k : ℕ) (a b : Cursor) →
      Repeated R k a b → times k go (at a f) ≡ at b f
  unfolding times
  times_back R go h zero a b e = ap (λ (z : Cursor). at z f) (sym e)
  times_back R go h (suc k) a b x =
      ap (λ (z : Scan). times k go z) (h a x.0 x.1) ∙ times_back R go h k x.0 b x.2

  pub reads_back : (g : Grammar) (a b : Cursor) → Reads S g a b → read_by S g (at a f) ≡ at b f
  unfolding read_by scan
  reads_back (field w c) a b t = takes_back w (λ v. c a.got v) a b t
  reads_back (seq g h) a b x = ap (λ (z : Scan). read_by S h z) (reads_back g a x.0 x.1)
      ∙ reads_back h x.0 b x.2
  reads_back (counted l m w g) a b x =
      count_on w (S.front w a.rest) (λ v. count_check l m v) a x.0 (λ u. read_by S g u) refl x.1
      ∙ times_back (λ c d. Reads S g c d) (λ u. read_by S g u) (reads_back g) (S.front w a.rest) x.0 b x.2
  reads_back nothing a b e = ap (λ (z : Cursor). at z f) (sym e)

  -- ---- where it stops
  stopped_given : (n i : ℕ) (b : Cursor) → (n ≡ 0 → ⊥) → given (at b (refusal n i)).fault ≡ true
  unfolding scan
  stopped_given n i b h = refusal_given n i h

  times_stop : (g : Grammar) (n : ℕ) (b : Cursor) →
      ((a : Cursor) → Stops S g a b n → read_by S g (at a f) ≡ at b (refusal n b.place)) →
      (k j : ℕ) (a d : Cursor) → j < k → Repeated (λ x y. Reads S g x y) j a d → Stops S g d b n →
      times k (λ u. read_by S g u) (at a f) ≡ at b (refusal n b.place)
  unfolding times
  times_stop g n b h zero j a d l x t = absurd (not-suc-le-zero l)
  times_stop g n b h (suc k) zero a d l x t =
      let stop = at b (refusal n b.place) in
      let here : read_by S g (at a f) ≡ stop = h a (subst (λ (z : Cursor). Stops S g z b n) x t) in
      ap (λ (z : Scan). times k (λ u. read_by S g u) z) here
      ∙ times_stays k (λ u. read_by S g u) stop
      (read_stays S g stop (stopped_given n b.place b (stops_given S g d b n t)))
  times_stop g n b h (suc k) (suc j) a d l x t =
      ap (λ (z : Scan). times k (λ u. read_by S g u) z) (reads_back g a x.0 x.1)
      ∙ times_stop g n b h k j x.0 d (le_of_suc-le-suc l) x.2 t

  pub stops_back : (g : Grammar) (a b : Cursor) (n : ℕ) → Stops S g a b n →
      read_by S g (at a f) ≡ at b (refusal n b.place)
  unfolding read_by scan
  stops_back (field w c) a b n t = stops_back_field w (λ v. c a.got v) a b n t
  stops_back (seq g h) a b n (inl t) =
      let stop = at b (refusal n b.place) in
      ap (λ (z : Scan). read_by S h z) (stops_back g a b n t)
      ∙ read_stays S h stop (stopped_given n b.place b (stops_given S g a b n t))
  stops_back (seq g h) a b n (inr t) =
      ap (λ (z : Scan). read_by S h z) (reads_back g a t.0 t.1) ∙ stops_back h t.0 b n t.2
  stops_back (counted l m w g) a b n (inl t) =
      ap (λ (z : Scan). cond (given z.fault) z (times (last_got z) (λ u. read_by S g u) z))
      (stops_back_field w (λ v. count_check l m v) a b n t)
      ∙ rw (stopped_given n b.place b t.given)
  stops_back (counted l m w g) a b n (inr t) =
      count_on w (S.front w a.rest) (λ v. count_check l m v) a t.0 (λ u. read_by S g u) refl t.3
      ∙ times_stop g n b (λ x. stops_back g x b n) (S.front w a.rest) t.2 t.0 t.1 t.4 t.5 t.6
  stops_back nothing a b n x = absurd x
