-- A turn of the pass: from the state after a run to the state after one step more. Assumes nothing.
use mathlib.Core.Path.{◌≡◌, sym, ap, ◌∙◌, subst}
use mathlib.Core.Bool.{true}
use mathlib.Core.List.{List, [], ◌∷◌, ◌++◌}
use mathlib.Core.Option.{some}
use Prim.Native.Nat.{ℕ, ◌+◌, ◌-◌, ◌*◌, ◌^◌, ◌≤◌, ◌<◌}
use native.Mathlib.Omega.{arith}
use lib.Bits.{bit_or}
use lib.Count.{ones, ones-le}
use lib.ListN.{length, get_or, set, length-append}
use Rattle.plan_format.specs.Sizes.{no_operation}
use Rattle.plan_format.specs.Plan.{Plan, count}
use Rattle.plan_order.specs.Runs.{standard, next as next_of}
use Rattle.check_run.specs.Words.{LowestBit}
use Rattle.check_run.specs.Queues.{can_go, HeadsLooked}
use Rattle.check_run.specs.Run.{RunGiven}
use Rattle.check_run.specs.State.{Head, waiting, finished, Tables, slot_of, Stepped, Going}
use Rattle.check_run.proofs.Sources.{source_small}
use Rattle.check_run.proofs.Watches.{go_gives, watch_more}
use Rattle.check_run.proofs.Readies.{Goes, goes, lowest_next, ones_ready}
use Rattle.check_run.proofs.Standing.{places_more}
use Rattle.check_run.proofs.Fills.{filled_more}
use Rattle.check_run.proofs.Listings.{greedy_left, listed_more}

pub head_inside : (p : Plan) (r : List ℕ) (q x : ℕ) → Head p r q x → x < no_operation → x < count p
head_inside p r q x (waiting _ l e f h) b = l
head_inside p r q x (finished h) b = absurd (omega arith)

module _ (p : Plan) (n : ℕ) (queue source next unit first : List ℕ) (shown : RunGiven p n queue source)
    (tables : Tables queue n next unit)
    (room : 2 * n ≤ length first) where
  pub turned :
      (i ready : ℕ) (head prev ran waiter rows list : List ℕ) →
      Going p n i source head prev ran waiter ready rows first list →
      0 < ready → ready < 65536 → i < n →
      (q j : ℕ) → q < 16 → LowestBit ready q → j ≡ slot_of (get_or head q 0) →
      (list₁ list₂ : List ℕ) → list₁ ≡ set list (i + n) (ones ready) →
      list₂ ≡ set list₁ i j →
      (head' prev' ran' rows' : List ℕ) → Stepped j q source next unit head prev ran rows head' prev' ran' rows' →
      (seen bit : ℕ) → seen ≡ get_or waiter j 0 → bit ≡ 2 ^ q →
      (ready' : ℕ) (waiter' : List ℕ) →
      HeadsLooked (bit_or seen bit) (ready - bit) head' source ran' waiter ready' waiter' →
      Going p n (i + 1) source head' prev' ran' waiter' ready' rows' first list₂
  turned i ready head prev ran waiter rows list going pos small b q j l low j_is list₁ list₂ e₁ e₂ head' prev' ran'
      rows' st seen bit s_is bit_is ready' waiter' looked =
      let r = going.run in
      let places = going.places in
      let bits = going.watch.readies in
      let t : can_go head source ran q ≡ true = sym (bits q l) ∙ low.there in
      let jh : get_or head q 0 ≡ j = omega (arith, (go_gives head source ran q t).0) in
      let g : Goes p n queue source shown r head prev ran places q j =
      subst (λ (x : ℕ). Goes p n queue source shown r head prev ran places q x) jh
      (goes p n queue source shown r head prev ran places q l t) in
      let chosen : next_of p r ≡ some j =
      lowest_next p n queue source shown r head prev ran places ready bits q l low ∙ ap (λ (x : ℕ). some x) jh in
      let counted = ones_ready p n queue source shown r head prev ran places ready bits small in
      let few : j < no_operation = omega (arith, g.inside, shown.sound.few_operations) in
      let places' = places_more p n queue source next unit shown tables r head prev ran places q j l g head' prev' ran'
      st.head_is st.prev_is st.ran_is in
      let merged = st.rows_are in
      record {
        run = r ++ (j ∷ []);
        many = length-append r (j ∷ []) ∙ omega (arith, going.many);
        left = greedy_left (λ r. next_of p r) n i r j (standard p) b chosen going.left;
        places = places';
        watch =
            watch_more source head ran waiter ready going.watch places.none_run places.head_long
            places.ran_long q j l low.there few
            (get_or next j 0) head' ran' st.head_is st.ran_is
            (λ k u v m w. source_small p n queue source shown (get_or head' k 0) m
            (head_inside p (r ++ (j ∷ [])) k (get_or head' k 0) (places'.heads k u) v) w)
            seen bit s_is bit_is ready' waiter' looked;
        filled = filled_more p n queue source next unit shown tables r head prev ran places q j l g rows
            going.filled rows' going.rows_long merged;
        rows_long = merged.long ∙ going.rows_long;
        listed = listed_more p n first r list list₁ list₂ i j (ones ready) room going.listed going.many b few
            (omega (arith, ones-le 16 ready small)) counted e₁ e₂;
      }
