-- Eviction by a bound: where as many entries exceed the bound as the capacity holds, the cut keeps exactly those; and
-- the least entry above a bound is the next bound. Assumes nothing.
use mathlib.Core.Path.{◌≡◌, refl, sym, ap, ◌∙◌}
use mathlib.Core.Bool.{Bool, true, false, ◌&&◌, cond}
use mathlib.Core.Logic.{◌⊎◌, inl, inr}
use mathlib.Core.List.{List, [], ◌∷◌}
use Prim.Native.Nat.{ℕ, suc, ◌+◌, ◌≤◌, ◌<◌, zero-le}
use native.Mathlib.Nat.{not-suc-le-zero}
use native.Mathlib.Omega.{arith}
use lib.Dec.{ltb}
use lib.ListN.{length}
use borrow.Author.Tests.{lt-ltb, le-ltb}
use Rattle.base_lists.proofs.Tests.{by_cases, clash, is_true, is_false, either}
use Rattle.base_lists.specs.Lists.{filter}
use Rattle.frontier_slots.specs.declared.Entry.{Entry}
use Rattle.frontier_slots.specs.Entries.{exceeds, exceeding, cut}
use Rattle.frontier.proofs.Sorted.{Sorted}
use Rattle.frontier.proofs.Exceeds.{exceeds_not_itself, exceeds_chain, exceeds_or, exceeds_past, exceeds_same}
use Rattle.frontier.proofs.Exceeds.{exceeds_zero}
use Rattle.frontier.proofs.Cut.{In, in_above}

-- COUNTS OF TWO BOUNDS
pub exceeding_same : (b m : Entry) (xs : List Entry) → ((y : Entry) → In y xs → exceeds y b ≡ exceeds y m) →
    exceeding b xs ≡ exceeding m xs
unfolding exceeding
exceeding_same b m [] h = refl
exceeding_same b m (x ∷ xs) h = rw (h x (inl refl), exceeding_same b m xs (λ y i. h y (inr i)))

pub exceeding_mono : (b m : Entry) (xs : List Entry) →
    ((y : Entry) → In y xs → exceeds y b ≡ true → exceeds y m ≡ true) → exceeding b xs ≤ exceeding m xs
unfolding exceeding
exceeding_mono b m [] h = zero-le
exceeding_mono b m (x ∷ xs) h =
    by_cases (exceeds x b)
    (λ t. rw (t, h x (inl refl) t) (omega (arith, exceeding_mono b m xs (λ y i. h y (inr i)))))
    (λ t. rw t (omega (arith, exceeding_mono b m xs (λ y i. h y (inr i)))))

-- no fewer exceed an entry than what it does not exceed
pub exceeding_over : (b x : Entry) (xs : List Entry) → exceeds x b ≡ false → exceeding b xs ≤ exceeding x xs
exceeding_over b x xs e =
    exceeding_mono b x xs (λ y i t. is_true (exceeds y x) (λ v. clash (exceeds x b) (exceeds_past y x b t v) e))

pub exceeding_none : (b : Entry) (xs : List Entry) → ((y : Entry) → In y xs → exceeds y b ≡ false) → exceeding b xs ≡ 0
unfolding exceeding
exceeding_none b [] h = refl
exceeding_none b (x ∷ xs) h = rw (h x (inl refl), exceeding_none b xs (λ y i. h y (inr i)))

-- fewer exceed an entry than exceed what it exceeds
pub exceeding_less : (x b : Entry) (xs : List Entry) → In x xs → exceeds x b ≡ true → exceeding x xs < exceeding b xs
unfolding exceeding
exceeding_less x b [] i e = absurd i
exceeding_less x b (y ∷ ys) i e =
    either i
    (λ q. rw (← q, exceeds_not_itself x, e) (omega (arith, exceeding_mono x b ys (λ z j t. exceeds_chain z x b t e))))
    (λ j. by_cases (exceeds y x)
    (λ t. rw (t, exceeds_chain y x b t e) (omega (arith, exceeding_less x b ys j e)))
    (λ t. rw t (omega (arith, exceeding_less x b ys j e))))

pub some_above : (b : Entry) (xs : List Entry) → 0 < exceeding b xs → (y : Entry) × In y xs × (exceeds y b ≡ true)
unfolding exceeding
some_above b [] h = absurd (not-suc-le-zero h)
some_above b (x ∷ xs) h =
    by_cases (exceeds x b) (λ t. (x, inl refl, t))
    (λ t. let h' : 0 < 0 + exceeding b xs = rw t at h in
    let w = some_above b xs (omega arith) in (w.0, inr w.1, w.2))

-- THE LEAST ENTRY ABOVE A BOUND
-- of an entry and the best so far, the one that is nearer above the bound
unfoldable pub nearer : (b x best : Entry) → Entry
nearer b x best = cond (exceeds x b && exceeds best x) x best

unfoldable pub least_above : (b best : Entry) → List Entry → Entry
least_above b best [] = best
least_above b best (x ∷ xs) = least_above b (nearer b x best) xs

nearer_below : (b x best : Entry) → exceeds x b ≡ false → best ≡ nearer b x best
unfolding nearer
nearer_below b x best e = rw e

nearer_past : (b x best : Entry) → exceeds x b ≡ true → exceeds best x ≡ false → best ≡ nearer b x best
unfolding nearer
nearer_past b x best e f = rw (e, f)

nearer_found : (b x best : Entry) → exceeds x b ≡ true → exceeds best x ≡ true → x ≡ nearer b x best
unfolding nearer
nearer_found b x best e f = rw (e, f)

-- what is found is the best so far or an entry above the bound, and it exceeds neither the best so far nor an entry
-- above the bound
record BestAfter (b best m : Entry) (xs : List Entry) : Type 0 where
  from : (m ≡ best) ⊎ (In m xs × (exceeds m b ≡ true))
  not_best : exceeds m best ≡ false
  under : (y : Entry) → In y xs → exceeds y b ≡ true → exceeds m y ≡ false

nearest : (b best : Entry) (xs : List Entry) → BestAfter b best (least_above b best xs) xs
unfolding least_above
nearest b best [] = record { from = inl refl; not_best = exceeds_not_itself best; under = λ y i. absurd i }
nearest b best (x ∷ xs) =
    by_cases (exceeds x b)
    (λ t. by_cases (exceeds best x)
    (λ u. rw (sym (nearer_found b x best t u))
    (let w = nearest b x xs in record {
      from = either w.from (λ q. inr (inl q, rw q t)) (λ p. inr (inr p.0, p.1));
      not_best = is_false (exceeds (least_above b x xs) best)
          (λ v. clash (exceeds (least_above b x xs) x) (exceeds_chain (least_above b x xs) best x v u) w.not_best);
      under = λ y i e. either i (λ q. rw q w.not_best) (λ j. w.under y j e);
    }))
    (λ u. rw (sym (nearer_past b x best t u))
    (let w = nearest b best xs in record {
      from = either w.from (λ q. inl q) (λ p. inr (inr p.0, p.1));
      not_best = w.not_best;
      under = λ y i e. either i
          (λ q. rw q (is_false (exceeds (least_above b best xs) x)
          (λ v. clash (exceeds best x) (exceeds_past (least_above b best xs) best x v w.not_best) u)))
          (λ j. w.under y j e);
    })))
    (λ t. rw (sym (nearer_below b x best t))
    (let w = nearest b best xs in record {
      from = either w.from (λ q. inl q) (λ p. inr (inr p.0, p.1));
      not_best = w.not_best;
      under = λ y i e. either i (λ q. clash (exceeds x b) (rw q at e) t) (λ j. w.under y j e);
    }))

-- one entry fewer exceeds the least above a bound
one_fewer : (b m : Entry) (c : ℕ) (xs : List Entry) → Sorted c xs → In m xs → exceeds m b ≡ true →
    ((y : Entry) → In y xs → exceeds y b ≡ true → exceeds m y ≡ false) → exceeding b xs ≡ exceeding m xs + 1
unfolding exceeding
one_fewer b m c [] s i e h = absurd i
one_fewer b m c (x ∷ xs) s i e h =
    either i
    (λ q. rw (← q, exceeds_not_itself m, e)
    (omega (
      arith,
      exceeding_same b m xs
          (λ y j. agree y (λ r. omega (arith, ap (λ (z : Entry). z.axis) q, in_above (suc x.axis) y xs s.2 j))
          (h y (inr j))),
    )))
    (λ j. rw (agree x (λ r. omega (arith, in_above (suc x.axis) m xs s.2 j)) (h x (inl refl)))
    (omega (arith, one_fewer b m (suc x.axis) xs s.2 j e (λ y k. h y (inr k)))))
  where
    agree : (y : Entry) → (y.axis ≡ m.axis → ⊥) → (exceeds y b ≡ true → exceeds m y ≡ false) →
        exceeds y b ≡ exceeds y m
    agree y n u =
        by_cases (exceeds y b) (λ t. t ∙ sym (exceeds_or m y n (u t)))
        (λ t. t ∙ sym (is_false (exceeds y m) (λ v. clash (exceeds y b) (exceeds_chain y m b v e) t)))

pub next_bound : (b top : Entry) (c : ℕ) (xs : List Entry) → Sorted c xs →
    ((y : Entry) → In y xs → exceeds y top ≡ false) → 0 < exceeding b xs →
    exceeding b xs ≡ exceeding (least_above b top xs) xs + 1
next_bound b top c xs s h p =
    let w = nearest b top xs in
    either w.from
    (λ q. let y = some_above b xs p in
    let same : least_above b top xs ≡ y.0 =
    exceeds_same y.0 (least_above b top xs) (rw q (h y.0 y.1)) (w.under y.0 y.1 y.2) in
    one_fewer b (least_above b top xs) c xs s (rw same y.1) (rw same y.2) w.under)
    (λ i. one_fewer b (least_above b top xs) c xs s i.0 i.1 w.under)

-- THE CUT BY A BOUND
keep_same : (f g : Entry → Bool) (xs : List Entry) → ((x : Entry) → In x xs → f x ≡ g x) → filter f xs ≡ filter g xs
unfolding filter
keep_same f g [] h = refl
keep_same f g (x ∷ xs) h = rw (h x (inl refl), keep_same f g xs (λ y i. h y (inr i)))

-- no fewer than the capacity exceed the bound, and fewer exceed each entry above it
pub cut_at : (b : Entry) (c : ℕ) (xs : List Entry) → c ≤ exceeding b xs →
    ((x : Entry) → In x xs → exceeds x b ≡ true → exceeding x xs < c) → cut c xs ≡ filter (λ x. exceeds x b) xs
unfolding cut
cut_at b c xs m h =
    keep_same (λ x. ltb (exceeding x xs) c) (λ x. exceeds x b) xs (λ x i.
    by_cases (exceeds x b)
    (λ t. lt-ltb (exceeding x xs) c (h x i t) ∙ sym t)
    (λ t. le-ltb (exceeding x xs) c (omega (arith, exceeding_over b x xs t)) ∙ sym t))

pub cut_by_bound : (b : Entry) (c : ℕ) (xs : List Entry) → exceeding b xs ≡ c → cut c xs ≡ filter (λ x. exceeds x b) xs
cut_by_bound b c xs e = cut_at b c xs (omega arith) (λ x i t. omega (arith, exceeding_less x b xs i t))

-- all exceed the zero entry
pub bound_start : (c : ℕ) (xs : List Entry) → Sorted c xs → exceeding (record { axis = 0; epoch = 0 }) xs ≡ length xs
unfolding exceeding
bound_start c [] s = refl
bound_start c (x ∷ xs) s = rw (exceeds_zero x s.1) (omega (arith, bound_start (suc x.axis) xs s.2))
