-- What a frontier sent out lists, stands for, and tells by dominance. Assumes nothing.
use mathlib.Core.Path.{◌≡◌, refl, sym, ap, ap₂, ◌∙◌, subst}
use mathlib.Core.Bool.{Bool, true, false}
use mathlib.Core.Logic.{◌⊎◌, inl, inr, ◌↔◌}
use mathlib.Core.List.{List, [], ◌∷◌}
use Prim.Native.Nat.{ℕ, suc, ◌≤◌, ◌<◌}
use native.Mathlib.Omega.{arith}
use lib.Dec.{ltb, eqb}
use lib.ListN.{length, get_or}
use borrow.Author.Tests.{ltb-true, ltb-false, lt-ltb, le-ltb}
use Rattle.base_lists.proofs.Tests.{by_cases, either}
use Rattle.base_lists.proofs.Tables.{tabulate_length}
use Rattle.frontier_slots.specs.declared.Entry.{Entry}
use Rattle.frontier_slots.specs.Entries.{find, cut}
use Rattle.frontier.specs.Frontiers.{entries, well_formed, pack, merge, reached, answer, dominance}
use Rattle.frontier.specs.Meaning.{epoch_of, epoch_at, Completion}
use Rattle.frontier.specs.declared.Frontier.{Frontier}
use Rattle.std.specs.Prelude.{Option, Some, None}
use Rattle.frontier.specs.Frontiers.{Yes, No}
use Rattle.frontier.proofs.Sorted.{Sorted}
use Rattle.frontier.proofs.Cut.{sorted_cut, cut_length, cut_whole, find_cut, epoch_cut}
use Rattle.frontier.proofs.Associate.{cut_fills}
use Rattle.frontier.proofs.Pack.{entries_pack, well_formed_pack}
use Rattle.frontier.proofs.Dominates.{judged_both, dominance_means}
use Rattle.frontier.proofs.Raising.{sorted_gathered, gathered_length, merge_empty}
use Rattle.plan_format.specs.Plan.{Plan, count, queues}
use Rattle.plan_format.specs.Sound.{Sound}
use Rattle.plan_order.specs.Precedence.{Before}
use Rattle.plan_order.specs.Rows.{row}
use Rattle.ask_frontier.specs.Sent.{row_entries, sent_entries, sent}
use Rattle.ask_frontier.specs.SentMeaning.{InRow, RowMap, SentMeans}
use Rattle.ask_frontier.proofs.SentRows.{by_axis, entries_map, map_same, over_order, order_over}

-- ---- a lookup and its epoch
listed_epoch : (l : Option ℕ) (e : ℕ) → l ≡ Some e → epoch_of l ≡ e
unfolding epoch_of
listed_epoch l e q = ap epoch_of q

epoch_listed : (l : Option ℕ) (e : ℕ) → 0 < e → epoch_of l ≡ e → l ≡ Some e
unfolding epoch_of
epoch_listed (Some d) e h q = ap (λ (n : ℕ). Some n) q
epoch_listed None e h q = absurd (omega arith)

listed_above : (b a e : ℕ) (xs : List Entry) → Sorted b xs → find a xs ≡ Some e → 0 < e
unfolding find
listed_above b a e [] s q = let z : ◌≡◌ {A = ℕ} 0 1 = cc in omega arith
listed_above b a e (x ∷ xs) s q =
    by_cases (eqb x.axis a)
    (λ t. let same : Some x.epoch ≡ Some e = rw t at q in let k : x.epoch ≡ e = cc in omega (arith, s.1))
    (λ t. listed_above (suc x.axis) a e xs s.2 (rw t at q))

module _ (p : Plan) (sound : Sound p) where
  -- ---- the entries before the cut
  sorted_sent : (j : ℕ) → Sorted 0 (sent_entries p j)
  unfolding sent_entries
  sorted_sent j = sorted_gathered (row_entries p j)

  few_sent : (j : ℕ) → length (sent_entries p j) ≤ 16
  unfolding sent_entries row_entries
  few_sent j =
      let entry_of : ℕ → Entry = λ q. record { axis = get_or p.axes q 0; epoch = get_or (row p j) q 0 } in
      omega (arith, gathered_length (row_entries p j), tabulate_length entry_of (queues p) 0, sound.few_queues)

  listed_right : (j axis e : ℕ) →
      (find axis (sent_entries p j) ≡ Some e) ↔ ((0 < e) × ((q : ℕ) × InRow p j axis e q))
  unfolding epoch_at
  listed_right j axis e =
      let es = sent_entries p j in
      let m = entries_map p sound j in (
        (λ f. let h = listed_above 0 axis e es (sorted_sent j) f in
            let k : epoch_at es axis ≡ e = listed_epoch (find axis es) e f in
            by_axis p axis
            (λ q l a. (h, (q, (l, a, sym (m.own q l) ∙ ap (epoch_at es) a ∙ k))))
            (λ none. absurd (omega (arith, m.elsewhere axis none)))),
        (λ w. let q = w.1.0 in
            let i = w.1.1 in
            epoch_listed (find axis es) e w.0
            (subst (λ (a : ℕ). epoch_at es a ≡ e) i.1 (m.own q i.0 ∙ i.2))),
      )

  -- ---- the frontier
  module _ (j c : ℕ) where
    found : entries (sent p j c) ≡ cut c (sent_entries p j)
    unfolding sent
    found = entries_pack (cut c (sent_entries p j)) (ltb c (length (sent_entries p j)))

    formed_sent : c ≤ 16 → well_formed (sent p j c) ≡ true
    unfolding sent
    formed_sent h =
        well_formed_pack (cut c (sent_entries p j)) (ltb c (length (sent_entries p j)))
        (sorted_cut c 0 (sent_entries p j) (sorted_sent j))
        (omega (arith, cut_length c 0 (sent_entries p j) (sorted_sent j)))

    taint_is : (sent p j c).tainted ≡ ltb c (length (sent_entries p j))
    unfolding sent pack
    taint_is = refl

    completes_sent : (full : ℕ → ℕ) → RowMap p j full → Completion (sent p j c) full
    completes_sent full m = record {
      at_least = λ a.
          rw found (omega (arith, epoch_cut c 0 (sent_entries p j) (sorted_sent j) a, map_same p sound j full m a));
      exact = λ t a.
          rw (found, cut_whole c (sent_entries p j) (ltb-false c (length (sent_entries p j)) (sym taint_is ∙ t)))
          (map_same p sound j full m a);
    }

  -- nothing is cut at sixteen, and a merge with the empty frontier cuts
  whole_is : (j : ℕ) → sent p j 16 ≡ pack (sent_entries p j) false
  unfolding sent
  whole_is j =
      ap₂ pack (cut_whole 16 (sent_entries p j) (few_sent j)) (le-ltb 16 (length (sent_entries p j)) (few_sent j))

  merged_sent : (j c : ℕ) → 1 ≤ c → c ≤ 16 →
      merge (sent p j 16) (pack [] false) c ≡ record { number = 0; frontier = sent p j c }
  unfolding sent
  merged_sent j c h k =
      ap (λ (f : Frontier). merge f (pack [] false) c) (whole_is j)
      ∙ merge_empty (sent_entries p j) false c (sorted_sent j) (few_sent j) h k

  untainted : (j : ℕ) → (sent p j 16).tainted ≡ false
  untainted j = taint_is j 16 ∙ le-ltb 16 (length (sent_entries p j)) (few_sent j)

  -- ---- dominance
  whole_answer : (b : Bool) → (answer b false false ≡ Yes) ⊎ (answer b false false ≡ No)
  unfolding answer
  whole_answer true = inl refl
  whole_answer false = inr refl

  whole : (i j : ℕ) → (dominance (sent p j 16) (sent p i 16) ≡ Yes) ⊎ (dominance (sent p j 16) (sent p i 16) ≡ No)
  whole i j =
      let f = sent p j 16 in
      let g = sent p i 16 in
      let told : answer (reached (entries f) (entries g)) false false ≡ dominance f g =
      sym (ap₂ (answer (reached (entries f) (entries g))) (untainted j) (untainted i))
      ∙ judged_both f g (formed_sent j 16 (omega arith)) (formed_sent i 16 (omega arith)) in
      either (whole_answer (reached (entries f) (entries g))) (λ e. inl (sym told ∙ e)) (λ e. inr (sym told ∙ e))

  module _ (j c i d : ℕ) (inside : i < count p) where
    abbrev full : ℕ → ℕ
    full = epoch_at (sent_entries p j)

    abbrev other : ℕ → ℕ
    other = epoch_at (sent_entries p i)

    yes_order : dominance (sent p j c) (sent p i d) ≡ Yes → (i ≡ j) ⊎ Before p i j
    yes_order e =
        over_order p sound i j inside full other (entries_map p sound j) (entries_map p sound i)
        ((dominance_means (sent p j c) (sent p i d) (dominance (sent p j c) (sent p i d)) refl).if_yes e full other
        (completes_sent j c full (entries_map p sound j)) (completes_sent i d other (entries_map p sound i)))

    no_order : dominance (sent p j c) (sent p i d) ≡ No → (i ≡ j) ⊎ Before p i j → ⊥
    no_order e w =
        (dominance_means (sent p j c) (sent p i d) (dominance (sent p j c) (sent p i d)) refl).if_no e full other
        (completes_sent j c full (entries_map p sound j)) (completes_sent i d other (entries_map p sound i))
        (order_over p sound i j inside full other (entries_map p sound j) (entries_map p sound i) w)

  pub sent_means : (j c : ℕ) → 1 ≤ c → c ≤ 16 → SentMeans p j c (sent p j c)
  sent_means j c low h = record {
    formed = formed_sent j c h;
    listed = listed_right j;
    as_merged = merged_sent j c low h;
    stays = λ a. ap (find a) (found j c) ∙ find_cut c 0 (sent_entries p j) (sorted_sent j) a;
    fills = ap length (found j c) ∙ cut_fills c (sent_entries p j) (sorted_sent j);
    taint = (
      (λ t. ltb-true c (length (sent_entries p j)) (sym (taint_is j c) ∙ t)),
      (λ l. taint_is j c ∙ lt-ltb c (length (sent_entries p j)) l),
    );
    row_map = entries_map p sound j;
    completes = completes_sent j c;
    if_yes = yes_order j c;
    if_no = no_order j c;
    exactly = λ e i inside. (
      yes_order j c i 16 inside,
      (λ w. rw e (either (whole i j) (λ y. y) (λ n. absurd (no_order j 16 i 16 inside n w)))),
    );
  }
