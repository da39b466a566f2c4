-- Whether only owners signal: the loop, and of a plan's columns that it is so of the plan. Assumes nothing.
use mathlib.Core.Path.{◌≡◌, refl, sym, ap, ◌∙◌, subst}
use mathlib.Core.Bool.{Bool, true, ◌&&◌, and_assoc, and-true}
use mathlib.Core.Logic.{◌↔◌}
use mathlib.Core.List.Memᴰ
use mathlib.Core.List.{List, [], ◌∷◌, Memᴰ}
use Prim.Native.Nat.{ℕ, suc, ◌+◌, ◌-◌, ◌≤◌, ◌<◌}
use native.Mathlib.Omega.{arith}
use lib.Dec.{eqb}
use lib.ListN.{length, get_or, drop}
use borrow.Author.Tests.{eqb-true, eq-eqb}
use Rattle.base_lists.proofs.Tests.{either, and_left, and_right, and_both}
use Rattle.plan_format.specs.Plan.{Plan}
use Rattle.plan_format.proofs.Heights.{begins}
use Rattle.plan_format.proofs.RulesFirst.{signal_inside}
use Rattle.plan_order.specs.Precedence.{Signal, no_signal, plan_signals}
use Rattle.plan_order.specs.OnlyOwners.{OnlyOwners}
use Rattle.plan_order.proofs.SignalPlaces.{signal, signal_in, signal_there}
use Rattle.check_columns.specs.Columns.{OwnerColumn, QueueColumn}
use Rattle.check_signals.specs.Walks.{SignalsGiven, held_in}
use Rattle.check_signals.specs.Owners.{owned, owned_from, by_owners}

-- ---- one signal
pub owned_is : (owner queue ssem sop : List ℕ) (k s i : ℕ) {t : Bool} → s ≡ get_or ssem k 0 → i ≡ get_or sop k 0 →
    t ≡ eqb (get_or owner s 0) (get_or queue i 0) → t ≡ owned owner queue ssem sop k
unfolding owned
owned_is owner queue ssem sop k s i s_is i_is t_is = t_is ∙ rw (s_is, i_is) refl

-- ---- the loop: what was found so far, with what is left, is the whole
pub record OwnedLeft (owner queue ssem sop : List ℕ) (many k : ℕ) (all : Bool) : Type 0 where
  pub inside : k ≤ many
  pub rest : (all && owned_from owner queue ssem sop (many - k) k) ≡ owned_from owner queue ssem sop many 0

module _ {owner queue ssem sop : List ℕ} {many : ℕ} where
  pub owned_none : OwnedLeft owner queue ssem sop many 0 true
  owned_none = let e : many - 0 ≡ many = omega arith in record { inside = omega arith; rest = rw e refl }

  pub owned_more : {k : ℕ} {all t next : Bool} → OwnedLeft owner queue ssem sop many k all → k < many →
      t ≡ owned owner queue ssem sop k → next ≡ (all && t) → OwnedLeft owner queue ssem sop many (k + 1) next
  unfolding owned_from
  owned_more {k} {all} {t} b l e n =
      let more : many - k ≡ suc (many - (k + 1)) = omega arith in
      let on : suc k ≡ k + 1 = omega arith in
      let whole : (all && (owned owner queue ssem sop k && owned_from owner queue ssem sop (many - (k + 1)) (k + 1)))
      ≡ owned_from owner queue ssem sop many 0 = rw (more, on) at b.rest in
      record {
        inside = omega arith;
        rest = rw (n, e)
            (and_assoc all (owned owner queue ssem sop k) (owned_from owner queue ssem sop (many - (k + 1)) (k + 1))
            ∙ whole);
      }

  pub owned_end : {k : ℕ} {all : Bool} → many ≤ k → OwnedLeft owner queue ssem sop many k all →
      all ≡ owned_from owner queue ssem sop many 0
  unfolding owned_from
  owned_end {k} {all} l b =
      let e : many - k ≡ 0 = omega arith in
      let h : (all && true) ≡ owned_from owner queue ssem sop many 0 = rw e at b.rest in
      sym (and-true all) ∙ h

pub owned_cut : (owner queue ssem sval sop : List ℕ) (signals many : ℕ) {all : Bool} →
    many ≡ held_in signals (length ssem) (length sval) (length sop) →
    all ≡ owned_from owner queue ssem sop many 0 → all ≡ by_owners signals owner queue ssem sval sop
unfolding by_owners
owned_cut owner queue ssem sval sop signals many m e = e ∙ rw m refl

-- ---- of plans
module _ {p : Plan} {semaphores signals : ℕ} {owner queue ssem sval sop last : List ℕ}
    (c : SignalsGiven p semaphores signals owner queue ssem sval sop last) where
  abbrev ByOwner : Signal → Type 0
  ByOwner y = get_or owner y.semaphore 0 ≡ get_or queue y.operation 0

  -- signal k by the columns is the next one of the list
  next_owned : (k : ℕ) (x : Signal) (xs : List Signal) → drop k (plan_signals p) ≡ (x ∷ xs) →
      owned owner queue ssem sop k ≡ eqb (get_or owner x.semaphore 0) (get_or queue x.operation 0)
  unfolding owned
  next_owned k x xs e =
      let d = begins no_signal (plan_signals p) k x xs e in
      let inside : k < signals = omega (arith, d.inside, c.signals_shown.all) in
      rw (
        c.signals_shown.semaphores k inside ∙ ap (λ (z : Signal). z.semaphore) d.here,
        c.signals_shown.operations k inside ∙ ap (λ (z : Signal). z.operation) d.here,
      ) refl

  each_owned : (k : ℕ) (xs : List Signal) → drop k (plan_signals p) ≡ xs →
      owned_from owner queue ssem sop (length xs) k ≡ true → (y : Signal) → Memᴰ y xs → ByOwner y
  unfolding owned_from
  each_owned k [] e h y m = absurd (Memᴰ.not-nil m)
  each_owned k (x ∷ xs) e h y m =
      let mine = owned owner queue ssem sop k in
      let rest = owned_from owner queue ssem sop (length xs) (suc k) in
      either (Memᴰ.cases_cons m)
      (λ q. subst ByOwner (sym q) (eqb-true _ _ (sym (next_owned k x xs e) ∙ and_left mine rest h)))
      (λ t. each_owned (suc k) xs (begins no_signal (plan_signals p) k x xs e).on (and_right mine rest h) y t)

  owned_each : (k : ℕ) (xs : List Signal) → drop k (plan_signals p) ≡ xs →
      ((y : Signal) → Memᴰ y xs → ByOwner y) → owned_from owner queue ssem sop (length xs) k ≡ true
  unfolding owned_from
  owned_each k [] e h = refl
  owned_each k (x ∷ xs) e h =
      and_both (owned owner queue ssem sop k) (owned_from owner queue ssem sop (length xs) (suc k))
      (next_owned k x xs e ∙ eq-eqb _ _ (h x (Memᴰ.head refl)))
      (owned_each (suc k) xs (begins no_signal (plan_signals p) k x xs e).on (λ y m. h y (Memᴰ.tail m)))

  pub all_held : held_in signals (length ssem) (length sval) (length sop) ≡ signals
  unfolding held_in
  all_held =
      let cols = c.signals_shown in
      omega (arith, cols.semaphore_room, cols.value_room, cols.operation_room)

  -- what the columns tell of owners is so of the plan
  pub owners_are : (by_owners signals owner queue ssem sval sop ≡ true) ↔ OnlyOwners p
  unfolding by_owners signal OwnerColumn QueueColumn
  owners_are = (
    λ h i k is.
        let inside = signal_inside p i k is in
        let low = (c.in_range i inside).signals k is in
        let each = rw (all_held, c.signals_shown.all) at h in
        let shown = each_owned 0 (plan_signals p) refl each _ (signal_in p i k is) in
        (low, sym (c.owners_shown _ low) ∙ shown ∙ c.queues_shown i inside),
    λ h. rw (all_held, c.signals_shown.all) (owned_each 0 (plan_signals p) refl (λ y m.
        let t = signal_there p y m in
        let own = h y.operation y.position t.0 in
        subst ByOwner (sym t.1) (c.owners_shown _ own.0 ∙ own.1
        ∙ sym (c.queues_shown y.operation (signal_inside p y.operation y.position t.0))))),
  )
