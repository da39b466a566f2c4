-- What is told of a side of a walk by a number, and dominance by two sides. Assumes nothing.
use mathlib.Core.Path.{◌≡◌, refl, sym, ap, ap₂, ◌∙◌, subst}
use mathlib.Core.Bool.{Bool, true, false, ◌||◌}
use Prim.Native.Nat.{ℕ, ◌≤◌, ◌<◌, max}
use lib.ListN.{get_or, set}
use native.Mathlib.Omega.{arith}
use borrow.Author.Tests.{le-leb}
use Rattle.base_lists.proofs.Tests.{by_cases}
use Rattle.std.specs.Prelude.{Result, Ok, Err}
use Rattle.frontier.specs.declared.Dominance.{Dominance}
use Rattle.frontier.specs.declared.Frontier.{Frontier}
use Rattle.frontier.specs.declared.Unfit.{Unfit}
use Rattle.frontier.specs.declared.side.Formed.{Formed}
use Rattle.frontier.specs.Frontiers.{Verdict, Refused, entries, well_formed, reached, answer, dominance, verdict}
use Rattle.frontier.specs.Frontiers.{number_of_unfit}
use Rattle.frontier.specs.Sides.{side, all_of, form_number, Judged}
use Rattle.frontier.specs.declared.Merged.{Merged}
use Rattle.frontier_slots.specs.Entries.{most_entries}
use Rattle.frontier.specs.Frontiers.{refusal, handed, joined, merge, raise, one_entry}
use Rattle.frontier_slots.specs.Slots.{AllSlots}
use Rattle.frontier.specs.Walks.{of_slots, left_number}
use Rattle.frontier.proofs.Merge.{LeftAccepted, left_accepted, accepted, refused_first, refused_right}
use Rattle.frontier.proofs.Raise.{raise_refused, raise_joined, raise_stored}
use Rattle.frontier.proofs.Dominates.{judged_left, judged_right, judged_answer}
use Rattle.frontier.proofs.Fill.{not_zero}

module _ (n : ℕ) (f : Frontier) (r : Result Formed Unfit) (w : Judged n f r) where
  -- not refused, the side is the frontier
  pub taken : (x : Formed) → r ≡ Ok x → (n ≡ 0) × (side x ≡ f)
  taken x q = subst (λ (z : Result Formed Unfit). Judged n f z) q w

  pub refused_by : (e : Unfit) → r ≡ Err e → n ≡ number_of_unfit e
  refused_by e q = subst (λ (z : Result Formed Unfit). Judged n f z) q w

pub not_refused : (n : ℕ) (f : Frontier) (r : Result Formed Unfit) → Judged n f r → ((e : Unfit) → r ≡ Err e → ⊥) →
    n ≡ 0
not_refused n f (Ok x) w h = w.0
not_refused n f (Err e) w h = absurd (h e refl)

-- what is known of its slots
pub kept : (r : Result Formed Unfit) (x : Formed) → r ≡ Ok x →
    (x.len ≤ most_entries) × AllSlots x.axes.now x.epochs.now
kept r x q = (x.few, x.sixteen)

-- what the number of the form tells
pub form_known : (f : Frontier) → form_number f ≡ 0 → well_formed f ≡ true
form_known f z =
    by_cases (well_formed f) (λ p. p) (λ p. absurd (let q : 14 ≡ 0 = rw p at z in omega arith))

pub form_missed : (f : Frontier) (e : Unfit) → form_number f ≡ number_of_unfit e →
    (well_formed f ≡ false) × (number_of_unfit e ≡ 14)
form_missed f e z =
    by_cases (well_formed f)
    (λ p. absurd (not_zero e (let q : 0 ≡ number_of_unfit e = rw p at z in sym q)))
    (λ p. (p, (let q : 14 ≡ number_of_unfit e = rw p at z in sym q)))

-- DOMINANCE
module _ (f g : Frontier) (r s : Result Formed Unfit) (w : Judged (form_number f) f r)
    (v : Judged (form_number g) g s) where
  pub no_right : (x : Formed) → r ≡ Ok x → (e : Unfit) → s ≡ Err e → (d : Result Dominance Unfit) →
      d ≡ Err e → verdict d ≡ dominance f g
  no_right x p e q d z =
      let m = form_missed g e (refused_by (form_number g) g s v e q) in
      rw z (ap Refused m.1
      ∙ judged_right f g (form_known f (taken (form_number f) f r w x p).0) m.0)

  pub dominates_by : (x y : Formed) → r ≡ Ok x → s ≡ Ok y → (t : Verdict) (all : Bool) →
      t ≡ answer all x.tainted y.tainted → all ≡ reached (all_of x) (all_of y) → t ≡ dominance f g
  unfolding entries
  dominates_by x y p q t all z h =
      let a = taken (form_number f) f r w x p in
      let b = taken (form_number g) g s v y q in
      judged_answer (side x) (side y) z h (ap well_formed a.1 ∙ form_known f a.0)
      (ap well_formed b.1 ∙ form_known g b.0)
      ∙ ap₂ {C = Verdict} dominance a.1 b.1

pub no_left : (f g : Frontier) (r : Result Formed Unfit) → Judged (form_number f) f r → (e : Unfit) →
    r ≡ Err e → (d : Result Dominance Unfit) → d ≡ Err e → verdict d ≡ dominance f g
no_left f g r w e q d z =
    let m = form_missed f e (refused_by (form_number f) f r w e q) in
    rw z (ap Refused m.1 ∙ judged_left f g m.0)

-- THE CAPACITY, then the form
pub judged_form : (f : Frontier) (c : ℕ) (r : Result Formed Unfit) → 1 ≤ c → c ≤ most_entries →
    Judged (form_number f) f r → Judged (left_number f c) f r
unfolding left_number
judged_form f c r h l w = rw (le-leb 1 c h, le-leb c most_entries l) w

module _ (f : Frontier) (c : ℕ) (r : Result Formed Unfit) (w : Judged (left_number f c) f r) where
  module _ (x : Formed) (p : r ≡ Ok x) where
    left : (g : Frontier) → LeftAccepted f g c
    left g = left_accepted f g c (left_number f c) refl (taken (left_number f c) f r w x p).0

    pub fits_capacity : (1 ≤ c) × (c ≤ most_entries)
    fits_capacity = let l = left f in (l.at_least_one, l.at_most_sixteen)

    pub still_judged : left_number (side x) c ≡ 0
    still_judged =
        let a = taken (left_number f c) f r w x p in ap (λ (g : Frontier). left_number g c) a.1 ∙ a.0

    raise_by : (axis epoch : ℕ) → raise (side x) axis epoch c ≡ raise f axis epoch c
    raise_by axis epoch = ap (λ (g : Frontier). raise g axis epoch c) (taken (left_number f c) f r w x p).1

    pub raise_joined_by : (axis epoch : ℕ) →
        handed (joined (all_of x) (one_entry axis epoch) x.tainted c) ≡ raise f axis epoch c
    unfolding entries
    raise_joined_by axis epoch =
        raise_joined (side x) axis epoch c (left_number (side x) c) refl still_judged _ refl ∙ raise_by axis epoch

    -- the axis is listed, and the capacity holds every entry
    pub raise_stored_by : (axis epoch i m : ℕ) → i < x.len → get_or x.axes.now i 0 ≡ axis →
        m ≡ max (get_or x.epochs.now i 0) epoch → x.len ≤ c →
        handed (of_slots x.axes.now (set x.epochs.now i m) x.len x.tainted) ≡ raise f axis epoch c
    raise_stored_by axis epoch i m h e g l =
        raise_stored (side x) axis epoch c (left_number (side x) c) refl still_judged i m h e g l
        ∙ raise_by axis epoch

  pub refused_merge : (g : Frontier) (e : Unfit) → r ≡ Err e → refusal (number_of_unfit e) ≡ merge f g c
  refused_merge g e q =
      refused_first f g c (number_of_unfit e) (sym (refused_by (left_number f c) f r w e q)) (not_zero e)

  pub refused_raise : (axis epoch : ℕ) (e : Unfit) → r ≡ Err e →
      refusal (number_of_unfit e) ≡ raise f axis epoch c
  refused_raise axis epoch e q =
      raise_refused f axis epoch c (number_of_unfit e) (sym (refused_by (left_number f c) f r w e q)) (not_zero e)

  module _ (g : Frontier) (s : Result Formed Unfit) (v : Judged (form_number g) g s) (x : Formed) (p : r ≡ Ok x) where
    pub refused_other : (e : Unfit) → s ≡ Err e → refusal (number_of_unfit e) ≡ merge f g c
    refused_other e q =
        let m = form_missed g e (refused_by (form_number g) g s v e q) in
        ap refusal m.1 ∙ refused_right f g c (left x p g) m.0

    pub merge_by : (y : Formed) → s ≡ Ok y →
        handed (joined (all_of x) (all_of y) (x.tainted || y.tainted) c) ≡ merge f g c
    unfolding entries
    merge_by y q =
        let a = taken (left_number f c) f r w x p in
        let b = taken (form_number g) g s v y q in
        accepted (side x) (side y) c (fits_capacity x p).0 (fits_capacity x p).1
        (ap well_formed a.1 ∙ (left x p g).left)
        (ap well_formed b.1 ∙ form_known g b.0)
        ∙ ap₂ {C = Merged} (λ (m n : Frontier). merge m n c) a.1 b.1
