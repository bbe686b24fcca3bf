-- Each step on the words of a cell keeps its law.
use Rattle.std.specs.Prelude.{bit_or}
use Rattle.std.specs.Int.Bits.{or_shifted_r, or_add_and}
use Rattle.std.proofs.lemmas.Nat.{and_or_self}
use Rattle.std.proofs.Common.{◌≡◌, ◌≢◌, ℕ, ◌+◌, ◌-◌, ◌%◌, ◌^◌, ◌<◌, ◌≤◌, Bool, true, false, List, [], ◌∷◌, get_or, set, sym, refl, ap, ◌∙◌, arith, true≢false, length-append}
use Rattle.std.specs.Prelude.{cond}
use mathlib.Core.Option.{none, some}
use lib.ListN.{get_elem?}
use Rattle.atomic_table.specs.Table.{State, Act, Valid, Allows, carried_after, keeps, step, stepped}
use Rattle.cns_pool.specs.declared.pool.TheConstants.{MAX_POOL}
use Rattle.cns_pool.specs.declared.pool.Asked.{Asked}
use Rattle.cns_pool.specs.declared.view.View.{View}
use Rattle.cns_pool.specs.Seen.{Seen}
use Rattle.cns_pool.specs.CellLaw.{Account, asked_in_all, calls_of, IsSeat, IsCell}
use Rattle.cns_pool.specs.CellWords.{Token, KeepsCell, seal_bit, word_of, words_of, view_after_ticket, view_after_sealed, FindsAsked, FindsPoured, reserve_step, pour_step, look_poured_step, look_asked_step, seal_step}
use Rattle.cns_pool.proofs.SumLemmas.{part-le-sum_by}
use Rattle.cns_pool.proofs.CellLemmas.{by_seal, below_push, cover_count_push, size_sum_push, seat_by, ChangesSeat, IsCell_changed, all_drawn}

-- the asked shares and the seal of an account
abbrev asked_of : Account → Asked
asked_of account = record { sum = asked_in_all account; sealed = account.sealed }

word_0 : (words : List ℕ) (account : Account) → words ≡ words_of account → get_or words 0 0 ≡ account.poured
word_0 words account is = ap (λ (ws : List ℕ). get_or ws 0 0) is

word_1 : (words : List ℕ) (account : Account) → words ≡ words_of account → get_or words 1 0 ≡ word_of (asked_of account)
word_1 words account is = ap (λ (ws : List ℕ). get_or ws 1 0) is

put_0 : (words : List ℕ) (old new : Account) (n : ℕ) → words ≡ words_of old → n ≡ new.poured → asked_of new ≡ asked_of old → set words 0 n ≡ words_of new
put_0 words old new n is poured same = ap (λ (ws : List ℕ). set ws 0 n) is ∙ (λ i. poured i ∷ word_of (sym same i) ∷ [])

put_1 : (words : List ℕ) (old new : Account) (n : ℕ) → words ≡ words_of old → n ≡ word_of (asked_of new) → new.poured ≡ old.poured → set words 1 n ≡ words_of new
put_1 words old new n is asked same = ap (λ (ws : List ℕ). set ws 1 n) is ∙ (λ i. sym same i ∷ asked i ∷ [])

seal_set : (sealed : Bool) → sealed ≡ true → seal_bit sealed ≡ 9223372036854775808
seal_set sealed is = ap seal_bit is

seal_clear : (sealed : Bool) → sealed ≡ false → seal_bit sealed ≡ 0
seal_clear sealed is = ap seal_bit is

module _ (views : List View) (account : Account) (cell : IsCell account views) (number : ℕ) (v : View) (at : get_elem? views number ≡ some v) where
  seat : IsSeat account number v
  seat = cell.seats number v at

  -- only one seat feeds
  no_other_feeds : v.feeds ≡ true → (other : ℕ) (u : View) → other ≢ number → IsSeat account other u → u.feeds ≡ true → ⊥
  no_other_feeds feeds other u differs of feeds_too = differs ((of.feeds feeds_too).one ∙ sym (seat.feeds feeds).one)

  abbrev finds_asked : (found : ℕ) → found ≡ word_of (asked_of account) → FindsAsked v found
  finds_asked found is = record {
    asked = asked_of account;
    word = is;
    budget = omega (arith, cell.budget, part-le-sum_by (λ (u : View). u.budget) views number v at);
    least = seat.saw_asked;
    sealed = seat.saw_seal;
    feeder = λ feeds. sym (seat.feeds feeds).seals;
    exact = λ works all open_. let none_yet = cell.unsealed open_ in omega (arith, all_drawn views account cell number v at works all);
    all = λ works all. omega (arith, all_drawn views account cell number v at works all);
  }

  finds_poured : (found : ℕ) → found ≡ account.poured → FindsPoured v found
  finds_poured found is = record {
    least = let seen = seat.saw_poured in omega arith;
    feeder = λ feeds. is ∙ sym (seat.feeds feeds).pours;
    budget = omega (arith, cell.budget, part-le-sum_by (λ (u : View). u.budget) views number v at);
    calls = λ works. let given = seat.given works in omega (arith, cell.calls, part-le-sum_by calls_of views number v at);
  }

  -- a seat, where more was asked
  asks_more : (drawn refused : ℕ) → asked_in_all account ≤ drawn + refused → (other : ℕ) (u : View) → IsSeat account other u → IsSeat (record account { drawn = drawn; refused = refused }) other u
  asks_more drawn refused more other u of = seat_by (record account { drawn = drawn; refused = refused }) other u (of.saw_poured, omega (arith, more, of.saw_asked), of.saw_seal) of.given of.made
      (λ feeds. let f = of.feeds feeds in record { one = f.one; pours = f.pours; seals = f.seals; most = f.most })

  -- a reserve that finds the cell open
  draws : (shares : ℕ) → shares ≤ v.budget → 0 < v.calls → account.sealed ≡ false
      → ChangesSeat account (record account { drawn = account.drawn + shares }) number v (view_after_ticket v shares (asked_in_all account))
  draws shares within call open_ = let none_yet = cell.unsealed open_ in let made = seat.made in record {
    budget = omega arith;
    unsealed = cell.unsealed;
    tiled = λ share. omega (arith, cover_count_push share v.intervals (asked_in_all account, shares), below_push share account.drawn shares);
    sizes = omega (arith, size_sum_push v.intervals (asked_in_all account, shares));
    calls = omega arith;
    given = refl;
    own = record {
      saw_poured = seat.saw_poured;
      saw_asked = omega arith;
      saw_seal = seat.saw_seal;
      given = seat.given;
      made = omega (arith, length-append v.intervals ((asked_in_all account, shares) ∷ []));
      feeds = λ feeds. let f = seat.feeds feeds in record { one = f.one; pours = f.pours; seals = f.seals; most = f.most };
    };
    others = λ other u differs. asks_more (account.drawn + shares) account.refused (omega arith) other u;
  }

  -- a reserve that finds the seal
  refuses : (shares : ℕ) → shares ≤ v.budget → 0 < v.calls → account.sealed ≡ true
      → ChangesSeat account (record account { refused = account.refused + shares }) number v (view_after_sealed v shares (asked_in_all account))
  refuses shares within call sealed = let made = seat.made in record {
    budget = omega arith;
    unsealed = λ open_. absurd (true≢false (sym sealed ∙ open_));
    tiled = λ share. refl;
    sizes = refl;
    calls = omega arith;
    given = refl;
    own = record {
      saw_poured = seat.saw_poured;
      saw_asked = omega arith;
      saw_seal = λ _. sealed;
      given = seat.given;
      made = omega arith;
      feeds = λ feeds. let f = seat.feeds feeds in record { one = f.one; pours = f.pours; seals = f.seals; most = f.most };
    };
    others = λ other u differs. asks_more account.drawn (account.refused + shares) (omega arith) other u;
  }

  -- a step that leaves the tickets, the budget and the calls of the seat
  leaves : (poured mine room : ℕ) (sealed shut : Bool) (seen : Seen) → (sealed ≡ false → account.refused ≡ 0)
      → IsSeat (record account { poured = poured; sealed = sealed }) number (record v { poured = mine; pour_room = room; sealed = shut; seen = seen })
      → ((other : ℕ) (u : View) → other ≢ number → IsSeat account other u → IsSeat (record account { poured = poured; sealed = sealed }) other u)
      → ChangesSeat account (record account { poured = poured; sealed = sealed }) number v (record v { poured = mine; pour_room = room; sealed = shut; seen = seen })
  leaves poured mine room sealed shut seen unsealed own others =
      record { budget = refl; unsealed = unsealed; tiled = λ share. refl; sizes = refl; calls = refl; given = refl; own = own; others = others }

  -- one that changes only what it has seen
  looks : (seen : Seen) → seen.poured ≤ account.poured → seen.asked ≤ asked_in_all account → (seen.sealed ≡ true → account.sealed ≡ true)
      → ChangesSeat account account number v (record v { seen = seen })
  looks seen poured asked sealed = leaves account.poured v.poured v.pour_room account.sealed v.sealed seen cell.unsealed
      (seat_by account number (record v { seen = seen }) (poured, asked, sealed) seat.given seat.made
      (λ feeds. let f = seat.feeds feeds in record { one = f.one; pours = f.pours; seals = f.seals; most = f.most }))
      (λ other u differs of. of)

  -- another seat than the feeder's, where more was poured or the cell sealed
  others_stay : (poured : ℕ) (sealed : Bool) → v.feeds ≡ true → account.poured ≤ poured → (account.sealed ≡ true → sealed ≡ true)
      → (other : ℕ) (u : View) → other ≢ number → IsSeat account other u → IsSeat (record account { poured = poured; sealed = sealed }) other u
  others_stay poured sealed feeds more still other u differs of = seat_by (record account { poured = poured; sealed = sealed }) other u
      (omega (arith, more, of.saw_poured), of.saw_asked, λ saw. still (of.saw_seal saw)) of.given of.made (λ too. absurd (no_other_feeds feeds other u differs of too))

  pours_in : (shares : ℕ) → v.feeds ≡ true → shares ≤ v.pour_room
      → ChangesSeat account (record account { poured = account.poured + shares }) number v (record v { poured = v.poured + shares; pour_room = v.pour_room - shares })
  pours_in shares feeds room = let f = seat.feeds feeds in
      leaves (account.poured + shares) (v.poured + shares) (v.pour_room - shares) account.sealed v.sealed v.seen cell.unsealed
      (seat_by (record account { poured = account.poured + shares }) number (record v { poured = v.poured + shares; pour_room = v.pour_room - shares })
      (omega (arith, seat.saw_poured), seat.saw_asked, seat.saw_seal) seat.given seat.made
      (λ _. record { one = f.one; pours = omega (arith, f.pours); seals = f.seals; most = omega (arith, f.most) }))
      (others_stay (account.poured + shares) account.sealed feeds (omega arith) (λ sealed. sealed))

  shuts : v.feeds ≡ true → ChangesSeat account (record account { sealed = true }) number v (record v { sealed = true; seen = record v.seen { sealed = true } })
  shuts feeds = let f = seat.feeds feeds in
      leaves account.poured v.poured v.pour_room true true (record v.seen { sealed = true }) (λ open_. absurd (true≢false open_))
      (seat_by (record account { sealed = true }) number (record v { sealed = true; seen = record v.seen { sealed = true } }) (seat.saw_poured, seat.saw_asked, λ _. refl) seat.given seat.made
      (λ _. record { one = f.one; pours = f.pours; seals = refl; most = f.most }))
      (others_stay account.poured true feeds (omega arith) (λ _. refl))

-- a step that leaves this account and this view
allowed : (s : State (Unit {0}) View) (rule : KeepsCell s) (id : ℕ) (me : Token) (word n : ℕ) (new : Account) (w : View) (tells : Token → Type 0) → get_elem? s.views id ≡ some me.0
    → set s.words word n ≡ words_of new → ChangesSeat rule.account new id me.0 w → tells (w, me.1)
    → (u : View) × (a : Act (Unit {0})) × Valid s.homes me.1 a × KeepsCell (stepped s word n id me.1 u a) × tells (u, carried_after me.1 a)
allowed s rule id me word n new w tells at words changes told =
    (w, keeps, tt, record { account = new; words = words; cell = IsCell_changed s.views rule.account new id me.0 w rule.cell at changes }, told)

pub reserves : (slots id : ℕ) (me : Token) (shares : ℕ) → shares ≤ me.0.budget → 0 < me.0.calls
    → Allows KeepsCell slots id me 1 (λ n. (n + shares) % 2 ^ 64) (reserve_step (step slots 1 shares 0 none) me)
reserves slots id me shares within call s rule _ at small =
    let v = me.0 in let account = rule.account in let found : ℕ = get_or s.words 1 0 in
    let is = word_1 s.words account rule.words in
    let finds = finds_asked s.views account rule.cell id v at found is in let limit : asked_in_all account + v.budget ≤ MAX_POOL = finds.budget in
    by_seal account.sealed
    (λ sealed.
    let bit = seal_set account.sealed sealed in let new : Account = record account { refused = account.refused + shares } in
    let word : (found + shares) % 18446744073709551616 ≡ word_of (asked_of new) = omega arith in
    allowed s rule id me 1 ((found + shares) % 18446744073709551616) new (view_after_sealed v shares (asked_in_all account)) (reserve_step (step slots 1 shares 0 none) me found) at (put_1 s.words account new _ rule.words word refl)
    (refuses s.views account rule.cell id v at shares within call sealed) (finds, λ i. (cond (sym sealed i) (view_after_sealed v shares (asked_in_all account)) (view_after_ticket v shares (asked_in_all account)), me.1)))
    (λ open_.
    let bit = seal_clear account.sealed open_ in let new : Account = record account { drawn = account.drawn + shares } in
    let word : (found + shares) % 18446744073709551616 ≡ word_of (asked_of new) = omega arith in
    allowed s rule id me 1 ((found + shares) % 18446744073709551616) new (view_after_ticket v shares (asked_in_all account)) (reserve_step (step slots 1 shares 0 none) me found) at (put_1 s.words account new _ rule.words word refl)
    (draws s.views account rule.cell id v at shares within call open_) (finds, λ i. (cond (sym open_ i) (view_after_sealed v shares (asked_in_all account)) (view_after_ticket v shares (asked_in_all account)), me.1)))

pub looks_poured : (slots id : ℕ) (me : Token) → Allows KeepsCell slots id me 0 (λ n. n) (look_poured_step (step slots 0 0 0 none) me)
looks_poured slots id me s rule _ at small =
    let v = me.0 in let account = rule.account in let found : ℕ = get_or s.words 0 0 in
    let is = word_0 s.words account rule.words in
    let of = rule.cell.seats id v at in
    allowed s rule id me 0 found account (record v { seen = record v.seen { poured = found } }) (look_poured_step (step slots 0 0 0 none) me found) at
    (put_0 s.words account account found rule.words is refl) (looks s.views account rule.cell id v at _ (omega arith) of.saw_asked of.saw_seal)
    (finds_poured s.views account rule.cell id v at found is, refl)

pub looks_asked : (slots id : ℕ) (me : Token) → Allows KeepsCell slots id me 1 (λ n. n) (look_asked_step (step slots 1 0 0 none) me)
looks_asked slots id me s rule _ at small =
    let v = me.0 in let account = rule.account in let found : ℕ = get_or s.words 1 0 in
    let is = word_1 s.words account rule.words in
    let of = rule.cell.seats id v at in
    allowed s rule id me 1 found account (record v { seen = record v.seen { asked = asked_in_all account; sealed = account.sealed } }) (look_asked_step (step slots 1 0 0 none) me found) at
    (put_1 s.words account account found rule.words is refl) (looks s.views account rule.cell id v at _ of.saw_poured (omega arith) (λ sealed. sealed))
    (finds_asked s.views account rule.cell id v at found is, refl)

pub pours : (slots id : ℕ) (me : Token) (shares : ℕ) → me.0.feeds ≡ true → shares ≤ me.0.pour_room
    → Allows KeepsCell slots id me 0 (λ n. (n + shares) % 2 ^ 64) (pour_step (step slots 0 shares 0 none) me)
pours slots id me shares feeds room s rule _ at small =
    let v = me.0 in let account = rule.account in let found : ℕ = get_or s.words 0 0 in
    let is = word_0 s.words account rule.words in let most = ((rule.cell.seats id v at).feeds feeds).most in
    let new : Account = record account { poured = account.poured + shares } in
    let word : (found + shares) % 18446744073709551616 ≡ new.poured = omega arith in
    allowed s rule id me 0 ((found + shares) % 18446744073709551616) new (record v { poured = v.poured + shares; pour_room = v.pour_room - shares }) (pour_step (step slots 0 shares 0 none) me found) at
    (put_0 s.words account new _ rule.words word refl) (pours_in s.views account rule.cell id v at shares feeds room) refl

-- bit 63 is set by `or`
or_seal : (n : ℕ) → n < 9223372036854775808 → bit_or n 9223372036854775808 ≡ 9223372036854775808 + n
or_seal n below = or_shifted_r 1 63 n below

or_again : (n mask : ℕ) → bit_or (bit_or n mask) mask ≡ bit_or n mask
or_again n mask = omega (arith, or_add_and (bit_or n mask) mask, and_or_self mask n)

or_sealed : (n : ℕ) → n < 9223372036854775808 → bit_or (9223372036854775808 + n) 9223372036854775808 ≡ 9223372036854775808 + n
or_sealed n below = ap (λ (m : ℕ). bit_or m 9223372036854775808) (sym (or_seal n below)) ∙ or_again n 9223372036854775808 ∙ or_seal n below

pub seals : (slots id : ℕ) (me : Token) → me.0.feeds ≡ true
    → Allows KeepsCell slots id me 1 (λ n. bit_or n 9223372036854775808) (seal_step (step slots 1 9223372036854775808 0 none) me)
seals slots id me feeds s rule _ at small =
    let v = me.0 in let account = rule.account in let found : ℕ = get_or s.words 1 0 in
    let is = word_1 s.words account rule.words in let limit = rule.cell.budget in
    let new : Account = record account { sealed = true } in
    let word : bit_or found 9223372036854775808 ≡ 9223372036854775808 + asked_in_all account =
    by_seal account.sealed
    (λ sealed.
    let bit = seal_set account.sealed sealed in let was : found ≡ 9223372036854775808 + asked_in_all account = omega arith in
    ap (λ (m : ℕ). bit_or m 9223372036854775808) was ∙ or_sealed (asked_in_all account) (omega arith))
    (λ open_.
    let bit = seal_clear account.sealed open_ in let was : found ≡ asked_in_all account = omega arith in
    ap (λ (m : ℕ). bit_or m 9223372036854775808) was ∙ or_seal (asked_in_all account) (omega arith)) in
    allowed s rule id me 1 (bit_or found 9223372036854775808) new (record v { sealed = true; seen = record v.seen { sealed = true } })
    (seal_step (step slots 1 9223372036854775808 0 none) me found) at (put_1 s.words account new _ rule.words word refl) (shuts s.views account rule.cell id v at feeds) refl
