-- What one turn of a pass does to its answer and its table. Assumes nothing.
use mathlib.Core.Path.{◌≡◌, refl, sym, ap, ◌∙◌, subst}
use mathlib.Core.Bool.{Bool, true, false, ◌&&◌, ◌||◌, not, cond}
use mathlib.Core.List.{List, ◌∷◌}
use Prim.Native.Nat.{ℕ, ◌+◌, ◌-◌, ◌*◌, ◌/◌, ◌%◌, ◌≤◌, ◌<◌}
use native.Mathlib.Nat.{le_refl, lt_irrefl}
use native.Mathlib.Omega.{arith}
use lib.Dec.{ltb, leb, eqb}
use lib.ListN.{length, get_or, set, replicate, length-set, length-replicate, get_or-replicate}
use lib.Seq.{get_or-set_same, get_or-set_other}
use borrow.Author.Tests.{ltb-true, ltb-false, leb-true, leb-false, eqb-true, eqb-false, lt-ltb, le-ltb, eq-eqb, ne_eqb}
use Rattle.base_lists.proofs.Tests.{by_cases}
use Rattle.plan_format.specs.Sizes.{most_buffers, most_operations, row_width, no_operation}
use Rattle.check_columns.specs.Shown.{mark_codes, mark_of, shown_from}
use Rattle.check_columns.proofs.Marks.{shown_none, shown_next}
use Rattle.check_columns.proofs.Ordered.{ordered_is}
use Rattle.check_marks.specs.Passes.{none_noted, noted, free_in, noted_back, OwnPlace}
use Rattle.check_marks.specs.Passes.{late, early, first_late, first_early}

-- ---- the table of a pass: for the free of each buffer a number that stands for it
pub record Noted (Stored : (free number : ℕ) → Type 0) (frees numbers : List ℕ) : Type 0 where
  pub size : length frees ≡ most_buffers
  pub long : length numbers ≡ most_buffers
  pub each : (b : ℕ) → b < most_buffers → Stored (free_in frees b) (get_or numbers b 0)

module _ (Stored : (free number : ℕ) → Type 0) where
  noted_none : (x : ℕ) → Stored no_operation x → Noted Stored none_noted (replicate most_buffers x)
  noted_none x h = record {
    size = length-replicate {A = ℕ} most_buffers no_operation;
    long = length-replicate {A = ℕ} most_buffers x;
    each = λ b l. rw (get_or-replicate most_buffers b no_operation 0 l, get_or-replicate most_buffers b x 0 l) h;
  }

  one_of : (t : Bool) (i g x y : ℕ) → Stored i x → Stored g y → Stored (cond t i g) (cond t x y)
  one_of true i g x y h k = h
  one_of false i g x y h k = k

  noted_more : (m i x y : ℕ) (frees numbers : List ℕ) → m < mark_codes → Stored i x → y ≡ get_or numbers (m / 2) 0 →
      Noted Stored frees numbers →
      Noted Stored (noted (mark_of m i) frees) (set numbers (m / 2) (cond (eqb (m % 2) 1) x y))
  unfolding noted
  noted_more m i x y frees numbers l h e s =
      let c = m / 2 in
      let low : c < most_buffers = omega arith in
      let g = cond (eqb (m % 2) 1) i (free_in frees c) in
      let z = cond (eqb (m % 2) 1) x y in
      let here : Stored (free_in (set frees c g) c) (get_or (set numbers c z) c 0) =
      rw (get_or-set_same frees c g 0 (omega (arith, s.size)), get_or-set_same numbers c z 0 (omega (arith, s.long)))
      (one_of (eqb (m % 2) 1) i (free_in frees c) x y h (rw e (s.each c low))) in
      record {
        size = length-set frees c g ∙ s.size;
        long = length-set numbers c z ∙ s.long;
        each = λ b k. by_cases (eqb c b)
            (λ t. subst (λ (w : ℕ). Stored (free_in (set frees c g) w) (get_or (set numbers c z) w 0)) (eqb-true c b t)
            here)
            (λ f. let other : b ≡ c → ⊥ = omega (arith, eqb-false c b f) in
            rw (get_or-set_other frees c b g 0 other, get_or-set_other numbers c b z 0 other) (s.each b k));
      }

-- where the row of a free begins
abbrev RowOf : (free number : ℕ) → Type 0
RowOf g x = (x ≡ row_width * g) × (g ≤ no_operation)

-- its own place
abbrev PlaceOf : (queue : List ℕ) → (free number : ℕ) → Type 0
PlaceOf queue g x = OwnPlace queue g x × (g ≤ no_operation)

place_none : (queue : List ℕ) → PlaceOf queue no_operation (row_width * no_operation)
place_none queue = (record { row = refl; column = λ l. absurd (lt_irrefl no_operation l) }, le_refl no_operation)

-- ---- tests
not_leb : (a b : ℕ) → ltb b a ≡ not (leb a b)
not_leb a b = by_cases (leb a b) (λ t. rw t (le-ltb b a (leb-true a b t))) (λ f. rw f (lt-ltb b a (leb-false a b f)))

row_inside : (g q : ℕ) → q < row_width → ltb (row_width * g + q) (row_width * no_operation) ≡ ltb g no_operation
row_inside g q l =
    by_cases (ltb g no_operation)
    (λ t. rw t (lt-ltb (row_width * g + q) (row_width * no_operation) (omega (arith, ltb-true g no_operation t))))
    (λ f. rw f (le-ltb (row_width * g + q) (row_width * no_operation) (omega (arith, ltb-false g no_operation f))))

module _ (queue rows : List ℕ) where
  pub late_is : (i free x own other : ℕ) → x ≡ get_or queue i 0 → own ≡ get_or rows (row_width * i + x % row_width) 0 →
      other ≡ get_or rows (free + x % row_width) 0 → (g : ℕ) → free ≡ row_width * g →
      (ltb free (row_width * no_operation) && ltb other own) ≡ late queue rows i g
  unfolding late
  late_is i free x own other e f h g is =
      let inside : ltb free (row_width * no_operation) ≡ ltb g no_operation =
      ap (λ (z : ℕ). ltb z (row_width * no_operation)) (let z : free ≡ row_width * g + 0 = omega arith in z)
      ∙ row_inside g 0 (omega arith) in
      rw (inside, not_leb own other, ordered_is queue rows i g x own other e f (rw is at h))

module _ (rows : List ℕ) where
  -- 1,024 is no operation
  pub early_is : (i free place freed marked : ℕ) → i < most_operations → freed ≡ get_or rows free 0 →
      marked ≡ get_or rows (row_width * i + free % row_width) 0 →
      (queue : List ℕ) (g : ℕ) → OwnPlace queue g free → OwnPlace queue i place →
      (eqb free place || (ltb free (row_width * no_operation) && ltb marked freed)) ≡ early queue rows g i
  unfolding early
  early_is i free place freed marked l e f queue g a b =
      let q = free % row_width in
      let at : free ≡ row_width * g + q = omega (arith, a.row) in
      let inside : ltb free (row_width * no_operation) ≡ ltb g no_operation =
      ap (λ (z : ℕ). ltb z (row_width * no_operation)) at ∙ row_inside g q (omega arith) in
      by_cases (ltb g no_operation)
      (λ t. let column = a.column (ltb-true g no_operation t) in
      rw (
        inside,
        t,
        same queue g a b l (ltb-true g no_operation t),
        not_leb freed marked,
        ordered_is queue rows g i (get_or queue g 0) freed marked refl
            (e ∙ ap (λ (z : ℕ). get_or rows z 0) (at ∙ ap (λ (z : ℕ). row_width * g + z) column))
            (f ∙ ap (λ (z : ℕ). get_or rows (row_width * i + z) 0) column),
      ))
      (λ n. rw (inside, n, ne_eqb free place (omega (arith, ltb-false g no_operation n, a.row, b.row))))
    where
      same : {free place i : ℕ} (queue : List ℕ) (g : ℕ) → OwnPlace queue g free → OwnPlace queue i place →
          i < most_operations → g < no_operation → eqb free place ≡ eqb g i
      same {free} {place} {i} queue g a b l h =
          by_cases (eqb g i)
          (λ t. let e = eqb-true g i t in
          let queues = ap (λ (z : ℕ). get_or queue z 0 % row_width) e in
          rw t (eq-eqb free place (omega (arith, e, a.row, b.row, a.column h, b.column l, queues))))
          (λ n. rw n (ne_eqb free place (omega (arith, eqb-false g i n, a.row, b.row))))

-- ---- uses, from the last mark to the first
pub record Backward (queue rows mark operation : List ℕ) (n many : ℕ) (places : List ℕ) (lowest k : ℕ) : Type 0 where
  pub inside : k ≤ many
  pub table : Noted RowOf (noted_back (shown_from mark operation (many - k) k)) places
  pub answer : lowest ≡ first_late queue rows n (shown_from mark operation (many - k) k)

module _ {queue rows mark operation : List ℕ} {n many : ℕ} where
  pub backward_none :
      Backward queue rows mark operation n many (replicate most_buffers (row_width * no_operation)) n many
  unfolding noted_back first_late
  backward_none =
      let e = shown_none mark operation many many (omega arith) in
      record {
        inside = omega arith;
        table = rw e (noted_none RowOf (row_width * no_operation) (refl, le_refl no_operation));
        answer = rw e;
      }

  pub backward_end : {places : List ℕ} {lowest k : ℕ} → k ≤ 0 →
      Backward queue rows mark operation n many places lowest k →
      lowest ≡ first_late queue rows n (shown_from mark operation many 0)
  backward_end {k} l b =
      let z : k ≡ 0 = omega arith in
      let e : many - k ≡ many = omega arith in
      b.answer ∙ rw (e, z)

  -- a mark is tested where it is a use, and noted where it is a free
  module _ {places : List ℕ} {lowest k m i free : ℕ} (b : Backward queue rows mark operation n many places lowest k)
      (more : 0 < k) (m_is : m ≡ get_or mark (k - 1) 0 % mark_codes)
      (i_is : i ≡ get_or operation (k - 1) 0 % most_operations) (free_is : free ≡ get_or places (m / 2) 0) where
    here : shown_from mark operation (many - (k - 1)) (k - 1) ≡ mark_of m i ∷ shown_from mark operation (many - k) k
    here =
        let e : k - 1 + 1 ≡ k = omega arith in
        rw (m_is, i_is) (shown_next mark operation many (k - 1) (omega (arith, b.inside)) ∙ rw e)

    free_row : RowOf (free_in (noted_back (shown_from mark operation (many - k) k)) (m / 2)) free
    free_row = rw free_is (b.table.each (m / 2) (omega (arith, m_is)))

    pub backward_low : free ≤ row_width * no_operation
    backward_low = omega (arith, free_row.0, free_row.1)

    pub backward_more : {t : Bool} {then : ℕ} {next : ℕ} → ((g : ℕ) → free ≡ row_width * g → t ≡ late queue rows i g) →
        then ≡ cond (eqb (m % 2) 0 && t) i lowest → next ≡ cond (eqb (m % 2) 1) (row_width * i) free →
        Backward queue rows mark operation n many (set places (m / 2) next) then (k - 1)
    unfolding noted_back first_late
    backward_more t_is then_is next_is =
        let frees = noted_back (shown_from mark operation (many - k) k) in
        record {
          inside = omega (arith, b.inside);
          table = rw (here, next_is)
              (noted_more RowOf m i (row_width * i) free frees places (omega (arith, m_is))
              (refl, omega (arith, i_is)) free_is b.table);
          answer = rw (here, ← b.answer, ← t_is (free_in frees (m / 2)) free_row.0) then_is;
        }

-- ---- marks of later holdings, from the first mark to the last
pub record Forward (queue rows mark operation : List ℕ) (n many : ℕ) (places : List ℕ) (k : ℕ) : Type 0 where
  pub inside : k ≤ many
  pub frees : List ℕ
  pub table : Noted (PlaceOf queue) frees places
  pub rest :
      first_early queue rows n frees (shown_from mark operation (many - k) k)
      ≡ first_early queue rows n none_noted (shown_from mark operation many 0)

module _ {queue rows mark operation : List ℕ} {n many : ℕ} where
  pub forward_none : Forward queue rows mark operation n many (replicate most_buffers (row_width * no_operation)) 0
  forward_none =
      let e : many - 0 ≡ many = omega arith in
      record {
        inside = omega arith;
        frees = none_noted;
        table = noted_none (PlaceOf queue) (row_width * no_operation) (place_none queue);
        rest = rw e;
      }

  pub forward_end : {places : List ℕ} {k : ℕ} → many ≤ k → Forward queue rows mark operation n many places k →
      n ≡ first_early queue rows n none_noted (shown_from mark operation many 0)
  unfolding first_early
  forward_end {k} l b = rw (shown_none mark operation many k l) at b.rest

  module _ {places : List ℕ} {k m i own free : ℕ} (b : Forward queue rows mark operation n many places k)
      (more : k < many) (m_is : m ≡ get_or mark k 0 % mark_codes) (i_is : i ≡ get_or operation k 0 % most_operations)
      (own_is : OwnPlace queue i own) (free_is : free ≡ get_or places (m / 2) 0) where
    first : shown_from mark operation (many - k) k ≡ mark_of m i ∷ shown_from mark operation (many - (k + 1)) (k + 1)
    first = rw (m_is, i_is) (shown_next mark operation many k more)

    free_place : PlaceOf queue (free_in b.frees (m / 2)) free
    free_place = rw free_is (b.table.each (m / 2) (omega (arith, m_is)))

    pub forward_low : free < row_width * (no_operation + 1)
    forward_low = omega (arith, free_place.0.row, free_place.1)

    module _ {t : Bool}
        (t_is : (queue : List ℕ) (g : ℕ) → OwnPlace queue g free → OwnPlace queue i own → t ≡ early queue rows g i)
      where
        passed : early queue rows (free_in b.frees (m / 2)) i ≡ t
        passed = sym (t_is queue (free_in b.frees (m / 2)) free_place.0 own_is)

        pub forward_early : t ≡ true → i ≡ first_early queue rows n none_noted (shown_from mark operation many 0)
        unfolding first_early
        forward_early h = rw (first, passed, h) at b.rest

        pub forward_fine : t ≡ false → {next : ℕ} → next ≡ cond (eqb (m % 2) 1) own free →
            Forward queue rows mark operation n many (set places (m / 2) next) (k + 1)
        unfolding first_early
        forward_fine h e = record {
          inside = omega arith;
          frees = noted (mark_of m i) b.frees;
          table = rw e (noted_more (PlaceOf queue) m i own free b.frees places (omega (arith, m_is))
              (own_is, omega (arith, i_is)) free_is b.table);
          rest = rw (first, passed, h) at b.rest;
        }
