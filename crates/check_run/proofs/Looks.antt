-- What holds an operation, and what a look at some queues leaves: none, one, and one more. Assumes nothing.
use mathlib.Core.Path.{◌≡◌, refl, sym, ap, ◌∙◌, subst}
use mathlib.Core.Bool.{Bool, true, false, ◌&&◌, ◌||◌, and-false, or-false}
use mathlib.Core.List.{List}
use Prim.Native.Nat.{ℕ, zero, suc, ◌+◌, ◌-◌, ◌*◌, ◌%◌, ◌^◌, ◌≤◌, ◌<◌}
use native.Mathlib.Nat.{mod-eq_of_lt}
use native.Mathlib.Omega.{arith}
use lib.Bits.{bit_or}
use lib.Dec.{ltb, eqb}
use lib.ListN.{length, get_or, set, length-set}
use lib.Pow.{pow-lt}
use lib.Seq.{get_or-set_same, get_or-set_other, set_out}
use borrow.Author.Tests.{ltb-true, ltb-false, le-ltb, lt-ltb, eqb-true, eqb-false, eq-eqb, ne_eqb}
use Rattle.base_lists.proofs.Tests.{by_cases, clash, and_both, or_cases, or_left, or_right, either}
use Rattle.plan_format.specs.Sizes.{no_operation}
use Rattle.check_run.specs.Words.{has, LowestBit}
use Rattle.check_run.specs.Queues.{held_by, blocker_of, can_go, HeadsLooked}
use Rattle.check_run.proofs.Words.{has_none, has_unit, has_or, has_split}

-- ---- what holds an operation
module _ (ran : List ℕ) where
  pub held_yes : (a b : ℕ) → get_or ran a 0 ≡ 0 → held_by ran a b ≡ a
  unfolding held_by
  held_yes a b e = rw (eq-eqb (get_or ran a 0) 0 e)

  pub held_no : (a b : ℕ) → (get_or ran a 0 ≡ 0 → ⊥) → held_by ran a b ≡ b
  unfolding held_by
  held_no a b e = rw (ne_eqb (get_or ran a 0) 0 e)

-- a, b and c are the sources of j, and x, y and z tell whether they have run
module _ (source ran : List ℕ) (j : ℕ) (a x : ℕ) (a_is : a ≡ get_or source (3 * j) 0) (x_is : x ≡ get_or ran a 0) where
  pub held_first : x ≡ 0 → a ≡ blocker_of source ran j
  unfolding blocker_of
  held_first e = rw (← a_is) (sym (held_yes ran a _ (sym x_is ∙ e)))

  module _ (x_ran : x ≡ 0 → ⊥) (b y : ℕ) (b_is : b ≡ get_or source (3 * j + 1) 0) (y_is : y ≡ get_or ran b 0) where
    pub held_second : y ≡ 0 → b ≡ blocker_of source ran j
    unfolding blocker_of
    held_second e =
        rw (← a_is, ← b_is) (sym (held_no ran a _ (λ z. x_ran (x_is ∙ z)) ∙ held_yes ran b _ (sym y_is ∙ e)))

    module _ (y_ran : y ≡ 0 → ⊥) (c z : ℕ) (c_is : c ≡ get_or source (3 * j + 2) 0) (z_is : z ≡ get_or ran c 0) where
      passed : (last : ℕ) → held_by ran a (held_by ran b last) ≡ last
      passed last = held_no ran a (held_by ran b last) (λ u. x_ran (x_is ∙ u))
          ∙ held_no ran b last (λ u. y_ran (y_is ∙ u))

      pub held_third : z ≡ 0 → c ≡ blocker_of source ran j
      unfolding blocker_of
      held_third e = rw (← a_is, ← b_is, ← c_is)
          (sym (passed (held_by ran c no_operation) ∙ held_yes ran c no_operation (sym z_is ∙ e)))

      held_last : (z ≡ 0 → ⊥) → no_operation ≡ blocker_of source ran j
      unfolding blocker_of
      held_last z_ran = rw (← a_is, ← b_is, ← c_is)
          (sym (passed (held_by ran c no_operation) ∙ held_no ran c no_operation (λ u. z_ran (z_is ∙ u))))

-- those before place k have run
module _ (source ran : List ℕ) (j : ℕ) where
  abbrev pub Passed : (k : ℕ) → Type 0
  Passed k = (m : ℕ) → m < k → get_or ran (get_or source (3 * j + m) 0) 0 ≡ 0 → ⊥

  no_more : 3 * j + 0 ≡ 3 * j
  no_more = omega arith

  first_ran : {k : ℕ} → 0 < k → Passed k → get_or ran (get_or source (3 * j) 0) 0 ≡ 0 → ⊥
  first_ran l passed u = passed 0 l (ap (λ (x : ℕ). get_or ran (get_or source x 0) 0) no_more ∙ u)

  pub held_at : (k at : ℕ) → Passed k → k < 3 → at ≡ get_or source (3 * j + k) 0 → get_or ran at 0 ≡ 0 →
      at ≡ blocker_of source ran j
  held_at zero at passed l e z =
      held_first source ran j at _ (e ∙ ap (λ (x : ℕ). get_or source x 0) no_more) refl z
  held_at (suc zero) at passed l e z =
      held_second source ran j _ _ refl refl (first_ran (omega arith) passed) at _ e refl z
  held_at (suc (suc zero)) at passed l e z =
      held_third source ran j _ _ refl refl (first_ran (omega arith) passed) _ _ refl refl (passed 1 (omega arith))
      at _ e refl z
  held_at (suc (suc (suc k))) at passed l e z = absurd (omega arith)

  pub held_none : Passed 3 → no_operation ≡ blocker_of source ran j
  held_none passed =
      held_last source ran j _ _ refl refl (first_ran (omega arith) passed) _ _ refl refl (passed 1 (omega arith))
      _ _ refl refl (passed 2 (omega arith))

-- ---- the bit of a queue
unit_small : (q : ℕ) → q < 16 → 2 ^ q < 65536
unit_small q l = pow-lt {i = q} {j = 16} l

pub unit_shifted : (q w : ℕ) → q < 16 → 65536 ≤ w → 1 * 2 ^ q % w ≡ 2 ^ q
unit_shifted q w l u =
    let e : 1 * 2 ^ q ≡ 2 ^ q = omega arith in
    rw e (mod-eq_of_lt (let h : 2 ^ q < w = omega (arith, unit_small q l) in h))

unit_only : (q k : ℕ) → has (2 ^ q) k ≡ true → q ≡ k
unit_only q k h = eqb-true q k (sym (has_unit q k) ∙ h)

join_bits : (x f s g : Bool) → ((x || (f && g)) || (s && g)) ≡ (x || ((f || s) && g))
join_bits true f s g = refl
join_bits false true s true = refl
join_bits false true s false = and-false s
join_bits false false s g = refl

module _ (head source ran : List ℕ) where
  -- ---- nothing looked at
  looked_none : (ready : ℕ) (waiter : List ℕ) → HeadsLooked 0 ready head source ran waiter ready waiter
  looked_none ready waiter = record {
    readies = λ q l.
        sym (ap (λ (b : Bool). has ready q || (b && can_go head source ran q)) (has_none q) ∙ or-false (has ready q));
    kept = λ b q l h. h;
    noted = λ q b l m u e v. clash (has 0 q) m (has_none q);
    long = refl;
  }

  -- ---- one after another
  looked_join :
      (first rest mask ready : ℕ) (waiter : List ℕ) (r : ℕ) (w : List ℕ) (ready_now : ℕ) (waiter_now : List ℕ) →
      ((q : ℕ) → q < 16 → has mask q ≡ (has first q || has rest q)) →
      HeadsLooked first ready head source ran waiter r w → HeadsLooked rest r head source ran w ready_now waiter_now →
      HeadsLooked mask ready head source ran waiter ready_now waiter_now
  looked_join first rest mask ready waiter r w ready_now waiter_now both a b = record {
    readies = λ q l.
        b.readies q l ∙ ap (λ (x : Bool). x || (has rest q && can_go head source ran q)) (a.readies q l)
        ∙ join_bits (has ready q) (has first q) (has rest q) (can_go head source ran q)
        ∙ ap (λ (x : Bool). has ready q || (x && can_go head source ran q)) (sym (both q l));
    kept = λ i q l h. b.kept i q l (a.kept i q l h);
    noted = λ q i l m u e v. either (or_cases (has first q) (has rest q) (sym (both q l) ∙ m))
        (λ t. b.kept i q l (a.noted q i l t u e v)) (λ t. b.noted q i l t u e v);
    long = b.long ∙ a.long;
  }

  -- the lowest queue of a word, and then the others
  pub looked_lowest :
      (m q unit ready : ℕ) (waiter : List ℕ) (r : ℕ) (w : List ℕ) (ready_now : ℕ) (waiter_now : List ℕ) →
      LowestBit m q → unit ≡ 2 ^ q →
      HeadsLooked (2 ^ q) ready head source ran waiter r w →
      HeadsLooked (m - unit) r head source ran w ready_now waiter_now →
      HeadsLooked m ready head source ran waiter ready_now waiter_now
  looked_lowest m q unit ready waiter r w ready_now waiter_now h e a b =
      looked_join (2 ^ q) (m - 2 ^ q) m ready waiter r w ready_now waiter_now (λ k l. has_split m q k h.there) a
      (subst (λ (x : ℕ). HeadsLooked (m - x) r head source ran w ready_now waiter_now) e b)

  pub looked_end : (m ready : ℕ) (waiter : List ℕ) → m ≡ 0 → HeadsLooked m ready head source ran waiter ready waiter
  looked_end m ready waiter e =
      subst (λ (x : ℕ). HeadsLooked x ready head source ran waiter ready waiter) (sym e) (looked_none ready waiter)

  -- ---- one queue
  module _ (q ready : ℕ) (waiter : List ℕ) (j : ℕ) (is_head : j ≡ get_or head q 0) where
    -- a queue that cannot go adds nothing
    not_added : ((k : ℕ) → q ≡ k → can_go head source ran k ≡ false) → (k : ℕ) →
        has ready k ≡ (has ready k || (has (2 ^ q) k && can_go head source ran k))
    not_added none_go k =
        by_cases (has (2 ^ q) k)
        (λ t. rw (none_go k (unit_only q k t), and-false (has (2 ^ q) k)) (sym (or-false (has ready k))))
        (λ f. rw f (sym (or-false (has ready k))))

    pub looked_closed : no_operation ≤ j → HeadsLooked (2 ^ q) ready head source ran waiter ready waiter
    looked_closed h = record {
      readies = λ k l. not_added (λ i t. closed t) k;
      kept = λ i k l m. m;
      noted = λ k i l m u e v. absurd (omega (arith, is_head, ap (λ (x : ℕ). get_or head x 0) (unit_only q k m)));
      long = refl;
    }
      where
        closed : {k : ℕ} → q ≡ k → can_go head source ran k ≡ false
        closed t = unfold can_go in
            (ap (λ (x : ℕ). can_go head source ran x) (sym t)
            ∙ rw (le-ltb (get_or head q 0) no_operation (rw is_head at h)))

    pub looked_unblocked :
        j < no_operation → (b : ℕ) → b ≡ blocker_of source ran j → b ≡ no_operation → (unit : ℕ) → unit ≡ 2 ^ q →
        HeadsLooked (2 ^ q) ready head source ran waiter (bit_or ready unit) waiter
    looked_unblocked h b b_is z unit u = record {
      readies = λ k m. has_or ready unit k ∙ ap (λ (x : Bool). has ready k || x) (ap (λ (x : ℕ). has x k) u ∙ added k);
      kept = λ i k m t. t;
      noted = λ k i m t v y w.
          absurd (omega (arith, e, ap (λ (x : ℕ). blocker_of source ran (get_or head x 0)) (unit_only q k t)));
      long = refl;
    }
      where
        e : blocker_of source ran (get_or head q 0) ≡ no_operation
        e = ap (λ (x : ℕ). blocker_of source ran x) (sym is_head) ∙ sym b_is ∙ z

        goes : can_go head source ran q ≡ true
        goes = unfold can_go in
            (and_both (ltb (get_or head q 0) no_operation) (eqb (blocker_of source ran (get_or head q 0)) no_operation)
            (lt-ltb (get_or head q 0) no_operation (rw is_head at h))
            (eq-eqb (blocker_of source ran (get_or head q 0)) no_operation e))

        added : (k : ℕ) → has (2 ^ q) k ≡ (has (2 ^ q) k && can_go head source ran k)
        added k =
            by_cases (has (2 ^ q) k)
            (λ t. rw (t, ap (λ (x : ℕ). can_go head source ran x) (sym (unit_only q k t)) ∙ goes))
            (λ f. rw f)

    noted_at :
        length waiter ≡ no_operation + 1 → (b : ℕ) → b ≡ blocker_of source ran j → (b ≡ no_operation → ⊥) →
        (unit : ℕ) → unit ≡ 2 ^ q →
        HeadsLooked (2 ^ q) ready head source ran waiter ready (set waiter b (bit_or (get_or waiter b 0) unit))
    noted_at long b b_is ne unit u = record {
      readies = λ k m. not_added (λ i t. stays t) k;
      kept = λ i k m t. by_cases (eqb i b) (λ z. same i k m (eqb-true i b z) t)
          (λ z. rw (get_or-set_other waiter b i (bit_or (get_or waiter b 0) unit) 0 (eqb-false i b z)) t);
      noted = λ k i m t v z w.
          let qk = unit_only q k t in
          let ib : b ≡ i = e ∙ ap (λ (x : ℕ). blocker_of source ran (get_or head x 0)) qk ∙ z in
          subst (λ (x : ℕ). has (get_or (set waiter b (bit_or (get_or waiter b 0) unit)) x 0) k ≡ true) ib
          (marked k m (omega (arith, ib))
          (or_right (has (get_or waiter b 0) k) (has unit k) (ap (λ (x : ℕ). has x k) u ∙ t)));
      long = length-set waiter b (bit_or (get_or waiter b 0) unit);
    }
      where
        e : b ≡ blocker_of source ran (get_or head q 0)
        e = b_is ∙ ap (λ (x : ℕ). blocker_of source ran x) is_head

        stays : {k : ℕ} → q ≡ k → can_go head source ran k ≡ false
        stays t = unfold can_go in (ap (λ (x : ℕ). can_go head source ran x) (sym t)
            ∙ rw (ne_eqb (blocker_of source ran (get_or head q 0)) no_operation (λ z. ne (e ∙ z)))
            (and-false (ltb (get_or head q 0) no_operation)))

        marked : (k : ℕ) → k < 16 → b < no_operation + 1 → (has (get_or waiter b 0) k || has unit k) ≡ true →
            has (get_or (set waiter b (bit_or (get_or waiter b 0) unit)) b 0) k ≡ true
        marked k m v t =
            rw (get_or-set_same waiter b (bit_or (get_or waiter b 0) unit) 0
            (let h : b < length waiter = omega arith in h))
            (has_or (get_or waiter b 0) unit k ∙ t)

        same : (i k : ℕ) → k < 16 → i ≡ b → has (get_or waiter i 0) k ≡ true →
            has (get_or (set waiter b (bit_or (get_or waiter b 0) unit)) i 0) k ≡ true
        same i k m z t =
            by_cases (ltb b (no_operation + 1))
            (λ y. subst (λ (x : ℕ). has (get_or (set waiter b (bit_or (get_or waiter b 0) unit)) x 0) k ≡ true)
            (sym z)
            (marked k m (ltb-true b (no_operation + 1) y)
            (or_left (has (get_or waiter b 0) k) (has unit k) (ap (λ (x : ℕ). has (get_or waiter x 0) k) (sym z) ∙ t))))
            (λ y. rw (set_out waiter b (bit_or (get_or waiter b 0) unit)
            (let h : length waiter ≤ b = omega (arith, ltb-false b (no_operation + 1) y) in h)) t)

    pub looked_held :
        length waiter ≡ no_operation + 1 → (b : ℕ) → b ≡ blocker_of source ran j → (b ≡ no_operation → ⊥) →
        (unit : ℕ) → unit ≡ 2 ^ q →
        (w : ℕ) → w ≡ get_or waiter b 0 → (waiter_now : List ℕ) → waiter_now ≡ set waiter b (bit_or w unit) →
        HeadsLooked (2 ^ q) ready head source ran waiter ready waiter_now
    looked_held long b b_is ne unit u w w_is waiter_now now_is =
        subst (λ (x : List ℕ). HeadsLooked (2 ^ q) ready head source ran waiter ready x)
        (sym (now_is ∙ ap (λ (x : ℕ). set waiter b (bit_or x unit)) w_is)) (noted_at long b b_is ne unit u)
