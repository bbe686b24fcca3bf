use Rattle.std.proofs.Common.{◌∙◌, ap, sym}
use Rattle.cns_ids.specs.Cusip.{cusip_text}
use Rattle.cns_ids.proofs.CusipLemmas.{text_of-widened}
use Rattle.cns_ids.proofs.cusip.Cusip.to_bytes.Goals as goal

pub returns-clause-text : goal.returns-clause-text
returns-clause-text c =
    let text = ap cusip_text (sym c.self.view_is) ∙ text_of-widened c.self.inside.number c.self.invariant.small in
    rw (
      c.last_character.ensures,
      c.last_character-2.ensures,
      c.last_character-3.ensures,
      c.last_character-4.ensures,
      c.last_character-5.ensures,
      c.last_character-6.ensures,
      c.last_character-7.ensures,
      c.last_character-8.ensures,
      c.last_character-9.ensures,
    ) (sym text)
