use Rattle.std.proofs.Common.{rules, ◌≡◌, ◌∙◌, None}
use Rattle.std.proofs.lemmas.Result.{on_ok_weaker}
use Rattle.cns_audit.specs.Check.{AreAsked, NoneOpen}
use Rattle.cns_audit.specs.Opened.{CannotOpen}
use Rattle.cns_depository.specs.Ranges.{standing}
use Rattle.cns_depository.proofs.LeastOpenings.{standing_fits}
use Rattle.cns_audit.proofs.CheckLemmas.{clean_by, faulty_by}
use Rattle.cns_audit.proofs.NoneLemmas.{none_refused, openings_of, records_are}
use Rattle.cns_audit.proofs.check.tell_all.Goals as goal

pub returns-clause-clean : goal.returns-clause-clean
returns-clause-clean g c =
    let same : c.as_slice.result.now ≡ c.in_ok-list.list.items = search rules in
    let of : AreAsked c.args.asked.now (standing c.as_slice.result.now) = rw same c.in_ok-list.ensures.list in
    on_ok_weaker c.tell_with.result (λ told none. clean_by c.args.asked.now c.args.journals.now _ told.0 of told.1 _ _ _ c.in_ok-list.ensures.tells told.2 none) c.tell_with.ensures

pub returns-clause-faulty : goal.returns-clause-faulty
returns-clause-faulty g c =
    let asked = c.args.asked.now in
    let journals = c.args.journals.now in
    let list = c.as_slice.result.now in
    let same : list ≡ c.in_ok-list.list.items = search rules in
    let of : AreAsked asked (standing list) = rw same c.in_ok-list.ensures.list in
    let none_open : CannotOpen (standing list) journals.clear.now journals.depot.now → asked.openings ≡ None → NoneOpen journals =
    λ refusal none_asked others w started.
    let openings = openings_of (standing list) (standing others) journals.clear.now journals.depot.now w started (standing_fits others) in
    let found = c.in_ok-ranges.ensures w.depot.log.records (standing others) (records_are (standing list) (standing others) journals.clear.now journals.depot.now w started) openings in
    let needs = c.in_ok-list.ensures.least none_asked w.depot.log.records found (standing others) openings in
    none_refused (standing list) (standing others) journals.clear.now journals.depot.now w started (rw same needs) refusal in
    on_ok_weaker c.tell_with.result (λ told some none other.
    faulty_by asked journals _ told.0 of told.1 _ _ _ none_open c.in_ok-list.ensures.tells told.2 some (c.tell_other_openings.ensures other ∙ none)) c.tell_with.ensures
