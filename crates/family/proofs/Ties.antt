-- What a pass over the cards found decides a call as the box does. Assumes nothing.
use Prim.Native.Nat.{ℕ, ◌+◌, ◌≤◌, ◌<◌, min}
use mathlib.Core.Path.{◌≡◌, refl, sym, ◌∙◌, ap}
use mathlib.Core.Bool.{Bool, true, false, not, cond, ◌&&◌, ◌||◌}
use mathlib.Core.List.{List, [], ◌∷◌, ◌++◌, map}
use native.Mathlib.Omega.{arith}
use lib.Dec.{ltb, eqb}
use lib.ListN.{length, get_or, set}
use lib.Seq.{set-get_or}
use borrow.Author.Tests.{ltb-true, lt-ltb}
use Rattle.calendar.specs.Calendar.{starts_month}
use Rattle.tariff.specs.declared.Units.{Units}
use Rattle.tariff.specs.declared.Kind.{Kind}
use Rattle.tariff.specs.declared.Plan.{Plan}
use Rattle.tariff.specs.Refusal.{refusal_number}
use Rattle.tariff.specs.Tests.{Reason, because, between, verdict_of, is_accepted}
use Rattle.tariff.specs.Units.{zero_units, only, ◌⊕◌, AtMost}
use Rattle.tariff.specs.Plan.{plan_reasons}
use Rattle.tariff.proofs.Tests.{bool_ext, eqb_ext, and-false}
use Rattle.presence.specs.Day.{is_placed}
use Rattle.presence.specs.Log.{lifetime_most}
use Rattle.state.specs.declared.Outcome.{Outcome}
use Rattle.state.specs.declared.Charge.{Charge}
use Rattle.state.specs.declared.Outcome.TheVariants as Told
use Rattle.state.specs.Use.{charged_units, cost, charge_of}
use Rattle.state.specs.Moves.{next_state_of}
use Rattle.state.specs.Reasons.{overfills, use_reasons, answer_by, is_taken}
use Rattle.account.specs.declared.Account.{Account}
use Rattle.account.specs.declared.Applied.{Applied}
use Rattle.account.specs.declared.Call.TheVariants as plain-call
use Rattle.account.specs.Whole.{sound, opened, day_after}
use Rattle.account.specs.Calls.{own_reasons, reasons, verdict, accepts, after, step}
use Rattle.account.specs.Answers.{no_plan, afford_of, accepted_answer, applied, applied_state}
use Rattle.account.proofs.Kept.{sound_tells}
use Rattle.account.proofs.Returns.{use_keeps}
use Rattle.account.proofs.Affords.{afford_keeps}
use Rattle.cards.specs.declared.Card.{Card}
use Rattle.cards.specs.declared.Survey.{Survey}
use Rattle.cards.specs.declared.Change.{Change}
use Rattle.cards.specs.declared.Renewal.TheVariants.{Month, Life}
use Rattle.cards.specs.Cards.{no_card, cards_units, allowances_fit, cards_sound, use_at, cleared, fresh}
use Rattle.cards.specs.Survey.{start, held_sum, held_used, survey_of, renewed_by, changed}
use Rattle.cards.proofs.Passes.{total_is, count_is, ordered_is, allowed_is, absent_is, read_is, held_is, card_most}
use Rattle.family.specs.declared.BoxCall.{BoxCall}
use Rattle.family.specs.declared.BoxCall.TheVariants.{Register, Use, TopUp, NextDay, Afford}
use Rattle.family.specs.Box.{Box, box_of, plain, same_units, box_sound, no_such_card, beyond, before, with_allowance}
use Rattle.family.specs.Box.{box_reasons, box_verdict, box_accepts, cards_after, box_after, box_step}
use Rattle.family.specs.Answers.{card_reasons, open_reasons, open_verdict, open_box, box_parts, box_afford, box_answer, box_applied}
use Rattle.family.specs.Seen.{card_place, cards_fit, card_read, card_missing, beyond_refusal, room_of, answer_within}
use Rattle.family.specs.Seen.{within_card, with_log, declined_state, seen_applied, card_after, month_turns}
use Rattle.family.specs.Seen.{seen_change, found_reasons, seen_verdict, seen_opened, opening_change}
use Rattle.family.proofs.Returns.{seen_0, seen_19, seen_plain}
use Rattle.family.proofs.Accepts.{box_tells, has_sound, lifetime_room}
use Rattle.family.proofs.Affords.{monthly_ok, card_affords}
use Rattle.family.proofs.Sums.{ltb_ext}
use Rattle.std.proofs.Math.Bool.{and-true}
use Rattle.std.specs.Prelude.{Some, None, Result, Ok, Err, ⊤}
use Rattle.tariff.specs.declared.Refusal.{Refusal}
use Rattle.tariff.specs.declared.Refusal.TheVariants.{Unsound, Unplaced, UnitCount, MeterFull, OverCredit, CardPlace, CardAllowance}

test_held : (x y : ℕ) → y ≤ 1000000000000 → eqb (min (0 + x) 1000000000001) y ≡ eqb x y
test_held x y h = eqb_ext (min (0 + x) 1000000000001) y x y (λ e. omega arith) (λ e. omega arith)

-- sums held at a ceiling are told from the account's as the sums are
same_held : (u v : Units) → AtMost v lifetime_most → same_units (held_sum zero_units u) v ≡ same_units u v
same_held u v h = simp (
  test_held u.kb v.kb h.kb,
  test_held u.outgoing v.outgoing h.outgoing,
  test_held u.incoming v.incoming h.incoming,
  test_held u.sms v.sms h.sms,
)

over_held : (n : ℕ) → ltb 16 (min n 17) ≡ ltb 16 n
over_held n = ltb_ext 16 (min n 17) 16 n (λ h. omega arith) (λ h. omega arith)

none_held : (n : ℕ) → eqb (min n 17) 0 ≡ eqb n 0
none_held n = eqb_ext (min n 17) 0 n 0 (λ h. omega arith) (λ h. omega arith)

-- the cards' part of soundness, on a sound account
sound_is : (a : Account) (cs : List Card) (i : ℕ) → (sound a && cards_fit a.state (survey_of (start i) cs)) ≡ box_sound (box_of a cs)
unfolding box_sound
sound_is a cs i = go (sound a) refl
  where
    go : (b : Bool) → sound a ≡ b → (b && cards_fit a.state (survey_of (start i) cs))
        ≡ (b && (same_units (cards_units cs) a.state.meters.lifetime && cards_sound cs))
    go true e =
        let h = (sound_tells a e).counters.lifetime_ok in
        ap (λ (u : Units). same_units u a.state.meters.lifetime && (survey_of (start i) cs).ordered) (total_is i cs)
        ∙ (λ j. same_held (cards_units cs) a.state.meters.lifetime h j && ordered_is i cs j)
    go false e = refl

missing_is : (cs : List Card) (c : BoxCall) → card_missing (survey_of (start (card_place c)) cs) c ≡ no_such_card c (length cs)
unfolding no_such_card
missing_is cs (Register p) = ap (ltb 16) (count_is 0 cs) ∙ over_held (length cs)
missing_is cs (Use i k n) = (λ j. absent_is i cs j || ltb 16 (count_is i cs j)) ∙ ap (λ (b : Bool). not (ltb i (length cs)) || b) (over_held (length cs))
missing_is cs (TopUp n) = ap (ltb 16) (count_is 0 cs) ∙ over_held (length cs)
missing_is cs NextDay = ap (ltb 16) (count_is 0 cs) ∙ over_held (length cs)
missing_is cs (Afford i k) = (λ j. absent_is i cs j || ltb 16 (count_is i cs j)) ∙ ap (λ (b : Bool). not (ltb i (length cs)) || b) (over_held (length cs))

-- a card that was found is put where it was
pub put_back : (cs : List Card) (i : ℕ) → set cs i (card_read (survey_of (start i) cs)) ≡ cs
put_back cs i = ap (set cs i) (read_is i cs) ∙ set-get_or cs i no_card

-- a month's first day, or none
month_if : (cs : List Card) (t : Bool) → renewed_by (cond t (Some Month) None) cs ≡ cond t (map cleared cs) cs
month_if cs true = refl
month_if cs false = refl

-- a reason that does not hold, put among others
before_none : (m : ℕ) (r : Reason) (rs : List Reason) → r.holds ≡ false → verdict_of (before m r rs) ≡ verdict_of rs
unfolding before verdict_of
before_none m r [] e = rw e refl
before_none m r (x ∷ xs) e = go (eqb (refusal_number x.refusal) m) (before_none m r xs e)
  where
    go : (b : Bool) → verdict_of (before m r xs) ≡ verdict_of xs → verdict_of (cond b (r ∷ x ∷ xs) (x ∷ before m r xs)) ≡ verdict_of (x ∷ xs)
    go true h = rw e refl
    go false h = ap (cond x.holds (Err x.refusal)) h

-- what Afford says, and what it is cut to
abbrev afford_tests : Bool → Bool → Result ⊤ Refusal
afford_tests s p = cond (not s) (Err Unsound) (cond (not p) (Err Unplaced) (Ok tt))

afford_cut : (s p : Bool) (m r n : ℕ) → (s ≡ true → p ≡ true → n ≡ min m r)
    → answer_within (answer_by (afford_tests s p) (Told.UpTo m)) r ≡ answer_by (afford_tests s p) (Told.UpTo n)
afford_cut false p m r n h = refl
afford_cut true false m r n h = refl
afford_cut true true m r n h = ap (λ (x : ℕ). Ok (Told.UpTo x)) (sym (h refl refl))

either_way : (t : Bool) (a : Account) → cond t a a ≡ a
either_way true a = refl
either_way false a = refl

-- the tests of a use: what the account says of it, and what a box does where it is beyond the card's allowance
abbrev plain_tests : Bool → Bool → Bool → Bool → Bool → Result ⊤ Refusal
plain_tests x t3 t4 t5 t6 = cond (not x) (Err Unsound)
    (cond t3 (Err Unplaced) (cond t4 (Err UnitCount) (cond t5 (Err MeterFull) (cond t6 (Err OverCredit) (Ok tt)))))

abbrev beyond_tests : Bool → Bool → Bool → Bool → Result ⊤ Refusal
beyond_tests x t3 t4 t5 = cond (not x) (Err Unsound)
    (cond t3 (Err Unplaced) (cond t4 (Err UnitCount) (cond t5 (Err MeterFull) (Err CardAllowance))))

-- an answer beside an account that stays
abbrev stays : Account → Result Outcome Refusal → Applied
stays a x = record { answer = x; account = a }

-- what a box answers by a verdict and what it would make of the account
abbrev by_verdict : Account → Account → Outcome → Result ⊤ Refusal → Applied
by_verdict a z x v = record { answer = answer_by v x; account = cond (is_accepted v) z a }

is_beyond : (a z : Account) (x t3 t4 t5 t6 : Bool) (q : Charge)
    → stays a (Err (beyond_refusal (answer_by (plain_tests x t3 t4 t5 t6) (Told.Charged q))))
    ≡ by_verdict a z (Told.Charged q) (beyond_tests x t3 t4 t5)
is_beyond a z false t3 t4 t5 t6 q = refl
is_beyond a z true true t4 t5 t6 q = refl
is_beyond a z true false true t5 t6 q = refl
is_beyond a z true false false true t6 q = refl
is_beyond a z true false false false true q = refl
is_beyond a z true false false false false q = refl

module _ (a : Account) (cs : List Card) where
  abbrev b : Box
  b = box_of a cs

  box_by : (c : BoxCall) → by_verdict a (after a (plain c)) (box_answer b c) (box_verdict b c) ≡ box_applied b c
  unfolding box_applied box_step box_accepts box_after
  box_by c = go (is_accepted (box_verdict b c))
    where
      go : (t : Bool) → ◌≡◌ {A = Applied} (record { answer = answer_by (box_verdict b c) (box_answer b c); account = cond t (after a (plain c)) a })
          (record { answer = answer_by (box_verdict b c) (box_answer b c); account = (cond t (box_after b c) b).account })
      go true = refl
      go false = refl

  refused_0 : (c : BoxCall) → box_sound b ≡ false → stays a (Err Unsound) ≡ box_applied b c
  unfolding box_applied box_step box_accepts box_verdict box_reasons verdict_of
  refused_0 c e = rw e refl

  refused_19 : (c : BoxCall) → box_sound b ≡ true → no_such_card c (length cs) ≡ true → stays a (Err CardPlace) ≡ box_applied b c
  unfolding box_applied box_step box_accepts box_verdict box_reasons verdict_of
  refused_19 c e f = rw (e, f) refl

  -- where neither the cards' 0 nor 19 holds
  module _ (c : BoxCall) (e : box_sound b ≡ sound a) (f : no_such_card c (length cs) ≡ false) where
    inner : box_verdict b c ≡ verdict_of (because Unsound (not (sound a)) ∷ with_allowance cs c (own_reasons a (plain c)))
    unfolding box_verdict box_reasons verdict_of
    inner = rw (e, f) refl

    as_plain : verdict_of (with_allowance cs c (own_reasons a (plain c))) ≡ verdict_of (own_reasons a (plain c))
        → box_answer b c ≡ accepted_answer a (plain c) → applied a (plain c) ≡ box_applied b c
    unfolding applied step accepts verdict reasons verdict_of
    as_plain g h =
        let w : box_verdict b c ≡ verdict_of (because Unsound (not (sound a)) ∷ own_reasons a (plain c))
        = inner ∙ ap (cond (not (sound a)) (Err Unsound)) g in
        (λ j. by_verdict a (after a (plain c)) (sym h j) (sym w j)) ∙ box_by c

  module _ (i : ℕ) (k : Kind) (n : ℕ) where
    abbrev t3 : Bool
    t3 = not (is_placed a.state.place)

    abbrev t4 : Bool
    t4 = not (between 1 n 1000000000)

    abbrev t6 : Bool
    t6 = ltb a.state.money.credit (cost a.state (charged_units a.state.place k n))

    account_tests : verdict a (plain-call.Use k n) ≡ plain_tests (sound a) t3 t4 (overfills a.state k n) t6
    unfolding verdict reasons own_reasons verdict_of use_reasons
    account_tests = refl

    box_tests : beyond (get_or cs i no_card) k n ≡ true → box_sound b ≡ sound a → no_such_card (Use i k n) (length cs) ≡ false
        → box_verdict b (Use i k n) ≡ beyond_tests (sound a) t3 t4 (overfills a.state k n)
    unfolding plain with_allowance own_reasons use_reasons before verdict_of
    box_tests g e f = inner (Use i k n) e f ∙ rw g refl

    abbrev charge : Charge
    charge = charge_of a.state k (charged_units a.state.place k n)

    use_is : (t : Bool) → beyond (get_or cs i no_card) k n ≡ t
        → box_sound b ≡ sound a → no_such_card (Use i k n) (length cs) ≡ false
        → with_log (applied a (plain-call.Use k n)).account (cond t
        (declined_state a.state (beyond_refusal (applied a (plain-call.Use k n)).answer))
        (applied_state (applied a (plain-call.Use k n))))
        ≡ box_applied b (Use i k n)
    unfolding plain with_allowance box_answer applied accepted_answer
    use_is false g e f =
        as_plain (Use i k n) e f (before_none 6 (because CardAllowance (beyond (get_or cs i no_card) k n)) _ g) refl
    use_is true g e f =
        (λ j. record {
          answer = Err (beyond_refusal (answer_by (account_tests j) (Told.Charged charge)));
          account = record { state = a.state; log = use_keeps a k n j };
        })
        ∙ is_beyond a (after a (plain-call.Use k n)) (sound a) t3 t4 (overfills a.state k n) t6 charge
        ∙ ap (by_verdict a (after a (plain-call.Use k n)) (Told.Charged charge)) (sym (box_tests g e f))
        ∙ box_by (Use i k n)

  module _ (i : ℕ) (k : Kind) (e : box_sound b ≡ sound a) (f : no_such_card (Afford i k) (length cs) ≡ false) where
    abbrev told : Result ⊤ Refusal
    told = afford_tests (sound a) (is_placed a.state.place)

    box_told : box_verdict b (Afford i k) ≡ told
    unfolding plain with_allowance own_reasons verdict_of
    box_told = inner (Afford i k) e f

    cut : sound a ≡ true → is_placed a.state.place ≡ true → box_afford b i k ≡ min (afford_of a k) (room_of (get_or cs i no_card) k)
    unfolding no_such_card
    cut s p = card_affords b i k (e ∙ s) f p

    afford_is : with_log (applied a (plain-call.Afford k)).account (record {
      answer = answer_within (applied a (plain-call.Afford k)).answer (room_of (get_or cs i no_card) k);
      state = (applied a (plain-call.Afford k)).account.state;
    }) ≡ box_applied b (Afford i k)
    unfolding applied accepted_answer verdict reasons own_reasons verdict_of plain box_answer after
    afford_is =
        (λ j. record {
          answer = afford_cut (sound a) (is_placed a.state.place) (afford_of a k) (room_of (get_or cs i no_card) k) (box_afford b i k) cut j;
          account = (afford_keeps a k ∙ sym (either_way (is_accepted told) a)) j;
        })
        ∙ ap (by_verdict a a (Told.UpTo (box_afford b i k))) (sym box_told)
        ∙ box_by (Afford i k)

  inside : (c : BoxCall) → box_sound b ≡ sound a → no_such_card c (length cs) ≡ false
      → with_log (applied a (plain c)).account (within_card a.state (applied_state (applied a (plain c))) (get_or cs (card_place c) no_card) c)
      ≡ box_applied b c
  unfolding plain with_allowance box_answer
  inside (Register p) e f = as_plain (Register p) e f refl refl
  inside (Use i k n) e f = use_is i k n (beyond (get_or cs i no_card) k n) refl e f
  inside (TopUp n) e f = as_plain (TopUp n) e f refl refl
  inside NextDay e f = as_plain NextDay e f refl refl
  inside (Afford i k) e f = afford_is i k e f

  module _ (c : BoxCall) where
    abbrev seen : Survey
    seen = survey_of (start (card_place c)) cs

    -- the answer and the account
    pub called_is : seen_applied a seen c ≡ box_applied b c
    called_is = go (cards_fit a.state seen) (card_missing seen c) (sound a) refl refl refl
      where
        go : (f m s : Bool) → cards_fit a.state seen ≡ f → card_missing seen c ≡ m → sound a ≡ s → seen_applied a seen c ≡ box_applied b c
        go false m s e₁ e₂ e₃ =
            sym (seen_0 a seen c e₁)
            ∙ refused_0 c (sym (sound_is a cs (card_place c)) ∙ ap (λ (x : Bool). sound a && x) e₁ ∙ and-false (sound a))
        go true true true e₁ e₂ e₃ =
            sym (seen_19 a seen c e₁ e₂) ∙ ap (λ (x : Bool). stays a (Err (cond x CardPlace Unsound))) e₃
            ∙ refused_19 c (sym (sound_is a cs (card_place c)) ∙ (λ j. e₃ j && e₁ j)) (sym (missing_is cs c) ∙ e₂)
        go true true false e₁ e₂ e₃ =
            sym (seen_19 a seen c e₁ e₂) ∙ ap (λ (x : Bool). stays a (Err (cond x CardPlace Unsound))) e₃
            ∙ refused_0 c (sym (sound_is a cs (card_place c)) ∙ (λ j. e₃ j && e₁ j))
        go true false s e₁ e₂ e₃ =
            sym (seen_plain a seen c e₁ e₂)
            ∙ ap (λ (d : Card). with_log (applied a (plain c)).account (within_card a.state (applied_state (applied a (plain c))) d c))
            (read_is (card_place c) cs)
            ∙ inside c (sym (sound_is a cs (card_place c)) ∙ ap (λ (x : Bool). sound a && x) e₁ ∙ and-true (sound a))
            (sym (missing_is cs c) ∙ e₂)

    -- what is answered tells whether the call is accepted
    pub taken_is : is_taken (box_applied b c).answer ≡ box_accepts b c
    unfolding box_applied box_accepts
    taken_is = go (box_verdict b c)
      where
        go : (v : Result ⊤ Refusal) → is_taken (answer_by v (box_answer b c)) ≡ is_accepted v
        go (Ok tt) = refl
        go (Err r) = refl

  -- the cards after an accepted call
  cards_changed : (c : BoxCall) → box_accepts b c ≡ true
      → changed (record {
        place = card_place c;
        card = card_after (card_read (survey_of (start (card_place c)) cs)) c;
        renewal = cond (month_turns c (after a (plain c)).state.day) (Some Month) None;
      }) cs ≡ cards_after b c
  unfolding changed cards_after plain after use_at day_after next_state_of
  cards_changed (Register p) e = put_back cs 0
  cards_changed (Use i k n) e =
      let s = box_tells b (has_sound b (Use i k n) e) in
      let h : AtMost (cards_units cs ⊕ only k n) lifetime_most = rw s.adds_up (lifetime_room b i k n e) in
      ap (λ (d : Card). set cs i (held_used d (only k n))) (read_is i cs)
      ∙ ap (set cs i) (held_is (get_or cs i no_card) (only k n) (omega (arith, h, card_most cs i)) (monthly_ok cs i s.each_ok).0)
  cards_changed (TopUp n) e = put_back cs 0
  cards_changed NextDay e = ap (renewed_by (cond (starts_month (a.state.day + 1)) (Some Month) None)) (put_back cs 0) ∙ month_if cs (starts_month (a.state.day + 1))
  cards_changed (Afford i k) e = put_back cs i

  -- what becomes of the cards, whether the call is accepted or not
  abbrev change_by : BoxCall → Bool → Box → Change
  change_by c t next = record {
    place = card_place c;
    card = cond t (card_after (card_read (seen c)) c) (card_read (seen c));
    renewal = cond (t && month_turns c next.account.state.day) (Some Month) None;
  }

  by_acceptance : (c : BoxCall) (t : Bool) → box_accepts b c ≡ t
      → changed (change_by c t (cond t (box_after b c) b)) cs ≡ (cond t (box_after b c) b).cards
  unfolding changed box_after
  by_acceptance c true e = unfold changed in cards_changed c e
  by_acceptance c false e = put_back cs (card_place c)

  -- the cards
  pub cards_are : (c : BoxCall)
      → changed (seen_change (applied_state (seen_applied a (seen c) c)) (seen c) c) cs ≡ (box_step b c).cards
  unfolding box_applied box_step
  cards_are c =
      ap (λ (x : Applied). changed (seen_change (applied_state x) (seen c) c) cs) (called_is c)
      ∙ ap (λ (t : Bool). changed (change_by c t (box_step b c)) cs) (taken_is c)
      ∙ by_acceptance c (box_accepts b c) refl

-- what the cards decline an opening with
pub reasons_are : (cs : List Card) → found_reasons (survey_of (start 0) cs) ≡ card_reasons cs
unfolding found_reasons card_reasons
reasons_are cs =
    (λ j. because CardPlace (eqb (count_is 0 cs j) 0 || ltb 16 (count_is 0 cs j)) ∷ because CardAllowance (not (allowed_is 0 cs j)) ∷ [])
    ∙ (λ j. because CardPlace (none_held (length cs) j || over_held (length cs) j) ∷ because CardAllowance (not (allowances_fit cs)) ∷ [])

module _ (p : Plan) (cs : List Card) where
  abbrev surveyed : Survey
  surveyed = survey_of (start 0) cs

  opened_verdict : seen_verdict p surveyed ≡ open_verdict p cs
  unfolding seen_verdict open_verdict open_reasons
  opened_verdict = ap (λ (rs : List Reason). verdict_of (plan_reasons p ++ rs)) (reasons_are cs)

  -- the answer and the account of an opening
  pub opened_is : seen_opened p surveyed ≡ box_parts (open_box p cs)
  unfolding seen_opened open_box
  opened_is =
      (λ j. record { answer = opened_verdict j; state = (cond (is_accepted (opened_verdict j)) (opened p) (opened no_plan)).state })
      ∙ (λ j. record { answer = open_verdict p cs; state = go (is_accepted (open_verdict p cs)) j })
    where
      go : (t : Bool) → (cond t (opened p) (opened no_plan)).state
          ≡ (cond t (box_of (opened p) (map fresh cs)) (box_of (opened no_plan) cs)).account.state
      go true = refl
      go false = refl

  -- its cards
  pub opened_cards : changed (opening_change (seen_opened p surveyed).answer surveyed) cs ≡ (open_box p cs).box.cards
  unfolding seen_opened open_box changed
  opened_cards =
      ap (λ (v : Result ⊤ Refusal). changed (opening_change v surveyed) cs) opened_verdict ∙ go (is_accepted (open_verdict p cs))
    where
      go : (t : Bool) → changed (record { place = 0; card = card_read surveyed; renewal = cond t (Some Life) None }) cs
          ≡ (cond t (box_of (opened p) (map fresh cs)) (box_of (opened no_plan) cs)).cards
      go true = ap (map fresh) (put_back cs 0)
      go false = put_back cs 0
