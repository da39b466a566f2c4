-- The walk that joins two frontiers: the next entry of the union of what is left, and what is written so far. Assumes
-- nothing.
use mathlib.Core.Path.{◌≡◌, refl, sym, ap, ◌∙◌}
use mathlib.Core.Bool.{Bool, true, false, or-true, false≢true}
use mathlib.Core.List.{List, [], ◌∷◌, ◌++◌, append_assoc, append-nil}
use Prim.Native.Nat.{ℕ, suc, ◌+◌, ◌-◌, ◌≤◌, ◌<◌, zero-le, max}
use native.Mathlib.Omega.{arith}
use lib.Dec.{eqb, ltb, leb}
use lib.ListN.{length, get_or, set, length-set}
use borrow.Author.Tests.{eqb-true, eqb-false, ltb-true, ltb-false, leb-true, leb-false, le-leb, lt-ltb}
use Rattle.base_lists.specs.Lists.{filter}
use Rattle.base_lists.proofs.Tests.{by_cases, clash}
use Rattle.std.specs.Prelude.{Some, None}
use Rattle.frontier_slots.specs.declared.Entry.{Entry}
use Rattle.frontier_slots.specs.Entries.{most_entries, most_of_two, rising_from, find, union, cut}
use Rattle.frontier_slots.specs.Slots.{slot, slots}
use Rattle.frontier.specs.Frontiers.{pack, handed, joined}
use Rattle.frontier_slots.specs.Slots.{rest, floor}
use Rattle.frontier.specs.Walks.{leads, AllRoom, LeftInRoom}
use Rattle.frontier.proofs.Sorted.{Sorted, sorted, rising, sorted_union, lower, union_commutes, union_left}
use Rattle.frontier.proofs.Sorted.{union_both}
use Rattle.frontier_slots.proofs.Slots.{rest_all, rest_more, rest_none}
use Rattle.frontier.proofs.Slots.{sorted_rest, slots_put, slots_length}
use Rattle.frontier.proofs.Cut.{find_below}
use Rattle.std.proofs.lemmas.Option.{none-some, same_Some}
use Rattle.frontier.proofs.Pack.{entries_pack}
use Rattle.frontier.proofs.Merge.{joined_whole}

-- WHICH SIDE LEADS
module _ (xa xe : List ℕ) (xn i : ℕ) where
  pub leads_none : (ys : List Entry) → xn ≤ i → false ≡ leads (rest xa xe xn i) ys
  unfolding leads
  leads_none ys h = rw (rest_none xa xe xn i h)

  pub leads_alone : (ya ye : List ℕ) (yn j : ℕ) → i < xn → yn ≤ j → true ≡ leads (rest xa xe xn i) (rest ya ye yn j)
  unfolding leads
  leads_alone ya ye yn j h l = rw (rest_more xa xe xn i h, rest_none ya ye yn j l)

  pub leads_both : (ya ye : List ℕ) (yn j : ℕ) → i < xn → j < yn →
      leb (get_or xa i 0) (get_or ya j 0) ≡ leads (rest xa xe xn i) (rest ya ye yn j)
  unfolding leads slot
  leads_both ya ye yn j h l = rw (rest_more xa xe xn i h, rest_more ya ye yn j l)

  -- a side that leads has an entry
  pub leads_some : (ys : List Entry) (t : Bool) → t ≡ leads (rest xa xe xn i) ys → t ≡ true → i < xn
  leads_some ys t q e =
      by_cases (ltb i xn) (λ l. ltb-true i xn l) (λ l. clash t e (q ∙ sym (leads_none ys (ltb-false i xn l))))

  -- and so does one that lists an axis
  pub listed_some : (a e : ℕ) → Some e ≡ find a (rest xa xe xn i) → i < xn
  unfolding find
  listed_some a e q =
      by_cases (ltb i xn) (λ t. ltb-true i xn t)
      (λ t. absurd (none-some _ (sym (rw (rest_none xa xe xn i (ltb-false i xn t)) at q))))

-- where one side does not lead, the other does, if anything is left
leads_other : (xs ys : List Entry) → 0 < length xs + length ys → leads xs ys ≡ false → leads ys xs ≡ true
unfolding leads
leads_other [] [] h e = absurd (omega arith)
leads_other [] (y ∷ ys) h e = refl
leads_other (x ∷ xs) [] h e = absurd (false≢true (sym e))
leads_other (x ∷ xs) (y ∷ ys) h e = le-leb y.axis x.axis (omega (arith, leb-false x.axis y.axis e))

-- an axis that leads and is absent on the other side lies below all of that side
absent_below : (b : ℕ) (x : Entry) (xs ys : List Entry) → Sorted b ys → leads (x ∷ xs) ys ≡ true →
    None ≡ find x.axis ys → Sorted (suc x.axis) ys
unfolding leads find
absent_below b x xs [] s l e = tt
absent_below b x xs (y ∷ ys) s l e = (
  by_cases (eqb y.axis x.axis) (λ t. absurd (none-some _ (rw t at e)))
      (λ t. omega (arith, leb-true x.axis y.axis l, eqb-false y.axis x.axis t)),
  s.1,
  s.2,
)

-- and one that is listed there is its first
listed_first : (b e : ℕ) (x : Entry) (xs : List Entry) (y : Entry) (ys : List Entry) → Sorted b (y ∷ ys) →
    leads (x ∷ xs) (y ∷ ys) ≡ true → Some e ≡ find x.axis (y ∷ ys) → (y.axis ≡ x.axis) × (e ≡ y.epoch)
unfolding leads find
listed_first b e x xs y ys s l q =
    by_cases (eqb y.axis x.axis)
    (λ t. (eqb-true y.axis x.axis t, same_Some _ _ (rw t at q)))
    (λ t. absurd (none-some _ (sym
    (find_below (suc y.axis) x.axis ys s.2 (omega (arith, leb-true x.axis y.axis l)))
    ∙ sym (rw t at q))))

-- TWO FRONTIERS: x from slot i on and y from slot j on
module _ (xa xe ya ye : List ℕ) (xn yn i j : ℕ) (rx : rising_from 0 (slots xa xe xn 0) ≡ true)
    (ry : rising_from 0 (slots ya ye yn 0) ≡ true) where
  right_from : j ≤ yn → Sorted (floor ya j) (rest ya ye yn j)
  right_from h = sorted_rest ya ye yn j h (sorted 0 (slots ya ye yn 0) ry)

  -- the slot and what comes after it
  left_at : i < xn → Sorted (floor xa i) (slot xa xe i ∷ rest xa xe xn (i + 1))
  left_at h = rw (rest_more xa xe xn i h) at (sorted_rest xa xe xn i (omega arith) (sorted 0 (slots xa xe xn 0) rx))

  right_at : j < yn → Sorted (floor ya j) (slot ya ye j ∷ rest ya ye yn (j + 1))
  right_at h = rw (rest_more ya ye yn j h) at (right_from (omega arith))

  pub next_absent : i < xn → j ≤ yn → leads (rest xa xe xn i) (rest ya ye yn j) ≡ true →
      None ≡ find (get_or xa i 0) (rest ya ye yn j) →
      union (rest xa xe xn i) (rest ya ye yn j) ≡ slot xa xe i ∷ union (rest xa xe xn (i + 1)) (rest ya ye yn j)
  unfolding slot
  next_absent h l m e =
      rw (rest_more xa xe xn i h)
      (union_left (slot xa xe i) (rest xa xe xn (i + 1)) (rest ya ye yn j) (left_at h).2
      (absent_below (floor ya j) (slot xa xe i) (rest xa xe xn (i + 1)) (rest ya ye yn j) (right_from l)
      (rw (rest_more xa xe xn i h) at m) e))

  pub next_listed : (e m : ℕ) → m ≡ max (get_or xe i 0) e → i < xn → j < yn →
      leads (rest xa xe xn i) (rest ya ye yn j) ≡ true → Some e ≡ find (get_or xa i 0) (rest ya ye yn j) →
      union (rest xa xe xn i) (rest ya ye yn j) ≡ record { axis = get_or xa i 0; epoch = m } ∷ union
      (rest xa xe xn (i + 1)) (rest ya ye yn (j + 1))
  unfolding slot
  next_listed e m g h l t q =
      let f = listed_first (floor ya j) e (slot xa xe i) (rest xa xe xn (i + 1)) (slot ya ye j) (rest ya ye yn (j + 1))
      (right_at l)
      (rw (rest_more xa xe xn i h, rest_more ya ye yn j l) at t) (rw (rest_more ya ye yn j l) at q) in
      rw (rest_more xa xe xn i h, rest_more ya ye yn j l, g, f.1)
      (union_both (slot xa xe i) (slot ya ye j) (rest xa xe xn (i + 1)) (rest ya ye yn (j + 1)) (sym f.0)
      (right_at l).1 (left_at h).2
      (lower (suc (get_or ya j 0)) (suc (get_or xa i 0)) (rest ya ye yn (j + 1)) (omega (arith, f.0)) (right_at l).2))

  pub right_leads : (t : Bool) → i + j < xn + yn → i ≤ xn → j ≤ yn → t ≡ leads (rest xa xe xn i) (rest ya ye yn j) →
      t ≡ false → leads (rest ya ye yn j) (rest xa xe xn i) ≡ true
  right_leads t h l r q e =
      leads_other (rest xa xe xn i) (rest ya ye yn j)
      (omega (arith, slots_length xa xe (xn - i) i, slots_length ya ye (yn - j) j)) (sym q ∙ e)

  rests_commute : (p q : ℕ) → p ≤ xn → q ≤ yn →
      union (rest xa xe xn p) (rest ya ye yn q) ≡ union (rest ya ye yn q) (rest xa xe xn p)
  rests_commute p q h l =
      union_commutes 0 (rest xa xe xn p) (rest ya ye yn q)
      (lower (floor xa p) 0 (rest xa xe xn p) zero-le (sorted_rest xa xe xn p h (sorted 0 (slots xa xe xn 0) rx)))
      (lower (floor ya q) 0 (rest ya ye yn q) zero-le (sorted_rest ya ye yn q l (sorted 0 (slots ya ye yn 0) ry)))

  -- a step with the sides turned
  pub next_turned : (x : Entry) (p q : ℕ) → i ≤ xn → j ≤ yn → p ≤ xn → q ≤ yn →
      union (rest ya ye yn j) (rest xa xe xn i) ≡ x ∷ union (rest ya ye yn q) (rest xa xe xn p) →
      union (rest xa xe xn i) (rest ya ye yn j) ≡ x ∷ union (rest xa xe xn p) (rest ya ye yn q)
  next_turned x p q h l r m e = rests_commute i j h l ∙ e ∙ ap (λ zs. x ∷ zs) (sym (rests_commute p q r m))

-- what is written so far, and the union of what is left, are the whole union
pub record Join (xa xe ya ye axes epochs : List ℕ) (xn yn n i j : ℕ) : Type 0 where
  pub left_in : i ≤ xn
  pub right_in : j ≤ yn
  pub few : n ≤ i + j
  pub room : AllRoom axes epochs
  pub whole : slots axes epochs n 0 ++ union (rest xa xe xn i) (rest ya ye yn j) ≡
      union (slots xa xe xn 0) (slots ya ye yn 0)

module _ (xa xe ya ye axes epochs : List ℕ) (xn yn : ℕ) where
  pub join_none : AllRoom axes epochs → Join xa xe ya ye axes epochs xn yn 0 0 0
  unfolding slots Rattle.base_lists.specs.Lists.tabulate_from
  join_none r = record {
    left_in = zero-le;
    right_in = zero-le;
    few = zero-le;
    room = r;
    whole = rw (rest_all xa xe xn, rest_all ya ye yn);
  }

  pub join_more : (n i j a e p q : ℕ) → Join xa xe ya ye axes epochs xn yn n i j → n < most_of_two → p ≤ xn → q ≤ yn →
      i + j < p + q → union (rest xa xe xn i) (rest ya ye yn j) ≡ record { axis = a; epoch = e } ∷ union
      (rest xa xe xn p) (rest ya ye yn q) → Join xa xe ya ye (set axes n a) (set epochs n e) xn yn (n + 1) p q
  join_more n i j a e p q w h l r m step = record {
    left_in = l;
    right_in = r;
    few = omega (arith, w.few);
    room = (length-set axes n a ∙ w.room.0, length-set epochs n e ∙ w.room.1);
    whole = rw (
      slots_put axes epochs n a e (omega (arith, w.room.0)) (omega (arith, w.room.1)),
      append_assoc,
      ← step,
    ) w.whole;
  }

  pub join_end : (n i j : ℕ) → Join xa xe ya ye axes epochs xn yn n i j → xn + yn ≤ i + j →
      xn ≤ most_entries → yn ≤ most_entries → (n ≤ most_of_two) × AllRoom axes epochs ×
      (slots axes epochs n 0 ≡ union (slots xa xe xn 0) (slots ya ye yn 0))
  unfolding union
  join_end n i j w h a b = (
    omega (arith, w.few, w.left_in, w.right_in),
    w.room,
    sym (append-nil (slots axes epochs n 0))
        ∙ (rw (
          rest_none xa xe xn i (omega (arith, w.left_in, w.right_in)),
          rest_none ya ye yn j (omega (arith, w.left_in, w.right_in)),
        ) at w.whole),
  )

-- THE WHOLE UNION, as eviction takes it, and what is left of it
module _ (xs ys : List Entry) (axes epochs : List ℕ) (n c : ℕ) (t : Bool)
    (e : slots axes epochs n 0 ≡ union xs ys) where
  pub union_rises : rising_from 0 xs ≡ true → rising_from 0 ys ≡ true → rising_from 0 (slots axes epochs n 0) ≡ true
  union_rises rx ry = rw e (rising 0 (union xs ys) (sorted_union 0 xs ys (sorted 0 xs rx) (sorted 0 ys ry)))

  -- what the capacity holds is not cut
  pub join_whole : AllRoom axes epochs → n ≤ c →
      LeftInRoom (handed (joined xs ys t c)) (record { number = 0; len = n; tainted = t }) axes epochs
  join_whole r l =
      let f : joined xs ys t c ≡ pack (union xs ys) t =
      joined_whole xs ys t c (omega (arith, ap length e, slots_length axes epochs n 0)) in
      rw f (record {
        room = r;
        number = refl;
        tainted = unfold pack in refl;
        listed = e ∙ sym (entries_pack (union xs ys) t);
      })

  -- and what is over it is, by the bound
  pub join_cut : (f : Entry → Bool) (new_axes new_epochs : List ℕ) (m : ℕ) → c < n →
      cut c (slots axes epochs n 0) ≡ filter f (slots axes epochs n 0) → AllRoom new_axes new_epochs →
      slots new_axes new_epochs m 0 ≡ filter f (slots axes epochs n 0) →
      LeftInRoom (handed (joined xs ys t c)) (record { number = 0; len = m; tainted = true }) new_axes new_epochs
  join_cut f new_axes new_epochs m l b r q =
      let over : ltb c (length (union xs ys)) ≡ true =
      lt-ltb c (length (union xs ys)) (omega (arith, ap length e, slots_length axes epochs n 0)) in
      rw (cut_joined over) (record {
        room = r;
        number = refl;
        tainted = unfold pack in refl;
        listed = q ∙ sym b ∙ ap (cut c) e ∙ sym (entries_pack (cut c (union xs ys)) true);
      })
    where
      cut_joined : ltb c (length (union xs ys)) ≡ true → joined xs ys t c ≡ pack (cut c (union xs ys)) true
      cut_joined over = unfold joined in (rw (over, or-true t) refl)
