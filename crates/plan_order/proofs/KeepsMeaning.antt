-- Keeping a buffer, and broken marks: what is asked of every mark, by positions. Assumes nothing.
use mathlib.Core.Path.{◌≡◌, refl, sym, ap, ◌∙◌, subst}
use mathlib.Core.Bool.{Bool, true, false}
use mathlib.Core.Logic.{◌⊎◌, inl, inr, ◌↔◌}
use mathlib.Core.List.{List, Memᴰ}
use mathlib.Core.Option.{Option, none, some}
use Prim.Native.Nat.{ℕ, ◌≤◌, ◌<◌}
use native.Mathlib.Omega.{arith}
use lib.Dec.{leb, eqb}
use lib.ListN.{length}
use borrow.Author.Tests.{ltb-true, lt-ltb, leb-true, leb-false, eqb-true, eq-eqb}
use Rattle.base_lists.proofs.Tests.{by_cases, by_option, clash, or_cases, or_left, or_right, either}
use Rattle.order.specs.Runs.{step_of}
use Rattle.plan_format.specs.Plan.{Plan}
use Rattle.plan_order.specs.Precedence.{before, Before}
use Rattle.plan_order.specs.Runs.{ahead}
use Rattle.plan_order.specs.Holdings.{Placed, Ask, asks_from, asks, asked_of, met, keeps, buffer_marks, all_asks}
use Rattle.plan_order.specs.Holdings.{broken}
use Rattle.plan_order.specs.Meaning.{mark_at, Asked, StepsEarlier, KeepsMeans, Forced, AllForced}
use Rattle.plan_order.specs.Meaning.{LowestBroken}
use Rattle.plan_order.proofs.Precedence.{before_chain, chain_before}
use Rattle.plan_order.proofs.Keeping.{all_asks_has, keeps_gives, keeps_by, broken_some, broken_none}
use Rattle.plan_order.proofs.AskedMarks.{ask, Origin, own, later, first, asked_origin, origin_asked}

-- ---- met, by a relation that a test works out
module _ (test : ℕ → ℕ → Bool) (Rel : ℕ → ℕ → Type 0) (works : (i j : ℕ) → (test i j ≡ true) ↔ Rel i j) where
  -- what is asked of the marks is met
  abbrev Met : Ask → Type 0
  Met a = met test a ≡ true

  own_met : (i j : ℕ) → Met (ask i j true) ↔ ((i ≡ j) ⊎ Rel i j)
  unfolding met
  own_met i j = (
    (λ h. either (or_cases (eqb i j) (test i j) h) (λ t. inl (eqb-true i j t)) (λ t. inr ((works i j).0 t))),
    (λ w. either w (λ e. or_left (eqb i j) (test i j) (eq-eqb i j e))
        (λ t. or_right (eqb i j) (test i j) ((works i j).1 t))),
  )

  later_met : (i j : ℕ) → Met (ask i j false) ↔ Rel i j
  unfolding met
  later_met i j = works i j

  -- every ask of a mark is met, so the mark has what is asked of it
  met_asked : (ms : List Placed) (k : ℕ) → k < length ms →
      ((a : Ask) → Memᴰ a (asks_from none ms) → asked_of a ≡ (mark_at ms k).by → Met a) →
      Asked ms (λ i j. (i ≡ j) ⊎ Rel i j) Rel k
  unfolding asked_of
  met_asked ms k b h = record {
    own_free = λ l x c n e. let a = ask (mark_at ms k).by (mark_at ms l).by true in
        (own_met (mark_at ms k).by (mark_at ms l).by).0 (h a (origin_asked none ms a (own k l x c n e refl)) refl);
    free_before = λ l x e n. let a = ask (mark_at ms l).by (mark_at ms k).by false in
        (later_met (mark_at ms l).by (mark_at ms k).by).0 (h a (origin_asked none ms a (later l k x b e n refl)) refl);
  }

  -- each ask is asked of a mark, and met where the mark has what is asked of it
  record OfMark (ms : List Placed) (a : Ask) (k : ℕ) : Type 0 where
    inside : k < length ms
    same : asked_of a ≡ (mark_at ms k).by
    meets : Asked ms (λ i j. (i ≡ j) ⊎ Rel i j) Rel k → Met a

  asked_met : (ms : List Placed) (a : Ask) → Origin none ms a → (k : ℕ) × OfMark ms a k
  unfolding asked_of
  asked_met ms a (own k l x b n e q) = (
    k,
    record {
      inside = omega arith;
      same = ap (λ (z : Ask). asked_of z) q;
      meets = λ w. subst (λ (z : Ask). Met z) (sym q)
          ((own_met (mark_at ms k).by (mark_at ms l).by).1 (w.own_free l x b n e));
    },
  )
  asked_met ms a (later l k x b e n q) = (
    k,
    record {
      inside = b;
      same = ap (λ (z : Ask). asked_of z) q;
      meets = λ w. subst (λ (z : Ask). Met z) (sym q)
          ((later_met (mark_at ms l).by (mark_at ms k).by).1 (w.free_before l x e n));
    },
  )
  asked_met ms a (first f k e b n q) = absurd (let z : ◌≡◌ {A = ℕ} 0 1 = cc in omega arith)

  of_mark : (p : Plan) (b : ℕ) (a : Ask) → Memᴰ a (asks p b) → (k : ℕ) × OfMark (buffer_marks p b) a k
  unfolding asks
  of_mark p b a m = asked_met (buffer_marks p b) a (asked_origin none (buffer_marks p b) a m)

-- ---- keeping
ahead_works : (r : List ℕ) (i j : ℕ) → (ahead r i j ≡ true) ↔ StepsEarlier r i j
unfolding ahead
ahead_works r i j = (ltb-true (step_of 0 r i) (step_of 0 r j), lt-ltb (step_of 0 r i) (step_of 0 r j))

pub keeps_means : (p : Plan) (r : List ℕ) (b : ℕ) → (keeps p r b ≡ true) ↔ KeepsMeans p r b
unfolding asks
keeps_means p r b = (
  (λ h k l. met_asked (ahead r) (StepsEarlier r) (ahead_works r) (buffer_marks p b) k l
      (λ a m s. keeps_gives p r b h a m)),
  (λ h. keeps_by p r b
      (λ a m. let w = of_mark (ahead r) (StepsEarlier r) (ahead_works r) p b a m in
      w.1.meets (h w.0 w.1.inside))),
)

-- ---- broken marks
module _ (p : Plan) where
  before_works : (i j : ℕ) → (before p i j ≡ true) ↔ Before p i j
  before_works i j = (before_chain p i j, chain_before p i j)

  mark_forced : (b k : ℕ) → b < length p.sizes → k < length (buffer_marks p b) →
      ((a : Ask) → Memᴰ a (all_asks p) → asked_of a ≡ (mark_at (buffer_marks p b) k).by → met (before p) a ≡ true) →
      Forced p b k
  unfolding asks
  mark_forced b k known l h =
      met_asked (before p) (Before p) before_works (buffer_marks p b) k l (λ a m s. h a (all_asks_has p b a known m) s)

  pub unbroken_means : ◌≡◌ {A = Option ℕ} (broken p) none ↔ AllForced p
  unbroken_means = (
    (λ e b k known l. mark_forced b k known l (λ a m s. broken_none p e a m)),
    (λ h. by_option (broken p) (λ e. e) (λ i e.
        let x = (broken_some p i e).0.1 in
        let a = (broken_some p i e).0.0 in
        let w = of_mark (before p) (Before p) before_works p x.buffer a x.among in
        clash (met (before p) a) (w.1.meets (h x.buffer w.0 x.known w.1.inside)) x.unforced)),
  )

  broken_lowest : (i : ℕ) → broken p ≡ some i → LowestBroken p i
  broken_lowest i e =
      let s = broken_some p i e in
      let a = s.0.0 in
      let x = s.0.1 in
      let w = of_mark (before p) (Before p) before_works p x.buffer a x.among in
      record {
        broken = (
          x.buffer,
          w.0,
          x.known,
          w.1.inside,
          sym w.1.same ∙ x.asked,
          λ h. clash (met (before p) a) (w.1.meets h) x.unforced,
        );
        lowest = λ b k known l u. mark_forced b k known l (λ a m q. s.1 a m (omega (arith, q)));
      }

  lowest_one : (i j : ℕ) → LowestBroken p i → LowestBroken p j → i ≤ j
  lowest_one i j a b =
      by_cases (leb i j) (λ t. leb-true i j t)
      (λ f. let w = b.broken in
      absurd (w.5 (a.lowest w.0 w.1 w.2 w.3 (omega (arith, w.4, leb-false i j f)))))

  pub broken_means : (i : ℕ) → (broken p ≡ some i) ↔ LowestBroken p i
  broken_means i = (
    broken_lowest i,
    (λ h. by_option (broken p)
        (λ e. let w = h.broken in absurd (w.5 (unbroken_means.0 e w.0 w.1 w.2 w.3)))
        (λ j e. let g = broken_lowest j e in
        let same : j ≡ i = let x = lowest_one i j h g in let y = lowest_one j i g h in omega arith in cc)),
  )
