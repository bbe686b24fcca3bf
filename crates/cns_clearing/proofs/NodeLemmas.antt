-- What a record that may stand has, and what is so of a node after each of its calls.
use Rattle.std.proofs.Common.{◌≡◌, ◌≢◌, ◌≤◌, ◌+◌, ℕ, arith, Bool, true, false, List, [], ◌∷◌, Result, Ok, Err, refl, sym, ap, ◌∙◌, subst}
use Rattle.std.specs.Prelude.{nat_le}
use Rattle.std.proofs.lemmas.Bool.{and_from, eq-eqb, le-leb}
use Rattle.cns_trades.specs.Verdicts.{verdict}
use Rattle.cns_trades.specs.declared.list.Verdict.TheVariants as verdicts
use Rattle.cns_trades.specs.declared.trade.Trade.{Trade}
use Rattle.cns_netting.specs.History.{accepted}
use Rattle.cns_pool.specs.Pool.{intervals_of}
use Rattle.cns_pool.specs.Tiles.{AreChained}
use Rattle.cns_records.specs.Drawn.{starts_from}
use Rattle.cns_records.specs.declared.drawn.Drawn.{Drawn}
use Rattle.cns_records.proofs.DrawnLaws.{by_start-sound}
use Rattle.cns_records.specs.Clear.{spelling, HasPayload, IsWritable}
use Rattle.cns_records.specs.declared.clear_record.ClearRecord.{ClearRecord}
use Rattle.cns_records.specs.declared.clear_record.ClearRecord.TheVariants.{Accept, Allocate}
use Rattle.cns_journal.proofs.LogLemmas.{committed_lawful, planned_lawful, restarted_lawful, unread_records}
use Rattle.cns_journal.specs.RecordLog.{IsLawfulLog, LogCommits, LogState}
use Rattle.cns_journal.specs.declared.keeper.NotPlanned.{NotPlanned}
use Rattle.cns_journal.specs.declared.record_log.ReplayFault.{ReplayFault}
use Rattle.cns_journal.specs.declared.record_log.Restarted.{Restarted}
use Rattle.cns_clearing.specs.Books.{Allows, AreBooksOf, AreSound, Books, IsAllowed, books_of, pool_tickets, with_record}
use Rattle.cns_clearing.specs.Lots.{AreLots, DoesNotDisturb, lots_after}
use Rattle.cns_clearing.specs.Node.{ClearNode, IsNode, NodePlanned, RestartLeaves}
use Rattle.cns_clearing.specs.declared.lot.Lot.{Lot}
use Rattle.cns_clearing.proofs.BooksLemmas.{lawful_sound}
use Rattle.cns_clearing.proofs.LotLemmas.{lots_more, lots_none}

-- the buyer of a new trade is not its seller
new_differs : (held : List Trade) (t : Trade) → verdict held t ≡ verdicts.New → t.buyer ≢ t.seller
new_differs held t is same = let no : verdict held t ≡ verdicts.SameMember = rw (eq-eqb t.buyer t.seller same) refl in cc

-- tickets that stand end to end stand by their starts
chained_starts : (n low : ℕ) (ds : List Drawn) → low ≤ n → AreChained n (intervals_of (pool_tickets ds)) → starts_from low ds ≡ true
chained_starts n low [] le chained = refl
chained_starts n low (d ∷ ds) le chained =
    let at : d.start ≡ n = chained.0 in
    and_from (nat_le low d.start) (starts_from d.start ds) (le-leb low d.start (omega (arith, at, le))) (chained_starts (n + d.asked) d.start ds (omega (arith, at)) chained.1)

-- a record that may stand after others is read again
pub allowed_writable : (b : Books) (r : ClearRecord) → Allows b r → IsWritable r
allowed_writable b (Accept t) allowed = new_differs (accepted b.history) t allowed
allowed_writable b (Allocate a) allowed = (allowed.order, by_start-sound a.drawn (chained_starts 0 0 a.drawn (omega arith) allowed.chained))
allowed_writable b _ allowed = tt

-- the books of lawful records are sound, and stay those of the records with one more
pub books_sound : (b : Books) (c : List ClearRecord) → AreBooksOf b c → AreSound b
books_sound b c are = rw are.books_are (lawful_sound c are.lawful are.fits)

-- and one more record makes of them those with it
pub books_more : (b : Books) (c : List ClearRecord) (r : ClearRecord) → AreBooksOf b c → Allows b r → HasPayload r → AreBooksOf (with_record r b) (r ∷ c)
unfolding books_of
books_more b c r are allowed payload = record {
  books_are = ap (with_record r) are.books_are;
  lawful = (rw are.books_are at allowed, are.lawful);
  fits = (payload, are.fits);
}

-- the books of a node are those of its records
pub node_books : (b : Books) (node : ClearNode) → IsNode b node → AreBooksOf b node.log.records
node_books b node n = record { books_are = n.books_are; lawful = n.log.allowed; fits = n.fits }

-- a node with other lots
pub node_lots : (b : Books) (node : ClearNode) (lots : List Lot) → IsNode b node → AreLots node.log.records lots → IsNode b (record node { lots = lots })
node_lots b node lots n are = record { books_are = n.books_are; log = n.log; fits = n.fits; lots = are }

-- a node that a record was added to
pub node_added : (r : ClearRecord) (b b' : Books) (old new : ClearNode) → IsNode b old → old.log.down ≡ false → IsAllowed old.log.records r
    → DoesNotDisturb r old.lots → HasPayload r → b' ≡ with_record r b → LogCommits r (Ok tt) old.log new.log → new.lots ≡ lots_after r old.lots → IsNode b' new
node_added r b b' old new n up allowed quiet payload more left lots =
    let list : new.log.records ≡ r ∷ old.log.records = ap (λ (l : LogState ClearRecord). l.records) left.0 in
    let are : AreBooksOf (with_record r b) (r ∷ old.log.records) = books_more b old.log.records r (node_books b old n) (rw n.books_are allowed) payload in
    record {
      books_are = more ∙ are.books_are ∙ ap books_of (sym list);
      log = committed_lawful IsAllowed r (Ok tt) old.log new.log n.log up allowed left;
      fits = rw list are.fits;
      lots = rw (list, lots) (lots_more old.log.records r old.lots n.lots quiet);
    }

-- a node whose next commit is to fail
pub node_planned : (stands : Bool) (result : Result (Unit {0}) NotPlanned) (b : Books) (old new : ClearNode) → IsNode b old → NodePlanned stands result old new → IsNode b new
node_planned stands result b old new n left =
    let same : new.log.records ≡ old.log.records = ap (λ (l : LogState ClearRecord). l.records) left.0.1 in
    record {
      books_are = rw same n.books_are;
      log = planned_lawful IsAllowed stands result old.log new.log n.log left.0;
      fits = rw same n.fits;
      lots = rw (same, left.1) n.lots;
    }

-- a node whose lots have all ended
without_lots : (b : Books) (new : ClearNode) → AreBooksOf b new.log.records → IsLawfulLog IsAllowed new.log → new.lots ≡ [] → IsNode b new
without_lots b new are law none = record {
  books_are = are.books_are;
  log = law;
  fits = are.fits;
  lots = rw none (lots_none new.log.records);
}

-- a node that was restarted
pub node_restarted : (b b' : Books) (old new : ClearNode) (done : Restarted) → IsNode b old → RestartLeaves (Ok done) old new → AreBooksOf b' new.log.records → IsNode b' new
node_restarted b b' old new done n left are = without_lots b' new are (restarted_lawful IsAllowed spelling HasPayload (Ok done) old.log new.log n.log left.0) left.1

-- one whose restart was refused is as it was, without its lots
pub node_unread : (b : Books) (old new : ClearNode) (fault : ReplayFault) → IsNode b old → RestartLeaves (Err fault) old new → IsNode b new
node_unread b old new fault n left =
    let same = unread_records IsAllowed spelling HasPayload fault old.log new.log left.0 in
    without_lots b new (subst (AreBooksOf b) (sym same) (node_books b old n)) (restarted_lawful IsAllowed spelling HasPayload (Err fault) old.log new.log n.log left.0) left.1
