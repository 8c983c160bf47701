use Rattle.hx_quota.proofs.ledger.Ledger.note_rings.Goals as goal

pub returns-clause-kept : goal.returns-clause-kept
returns-clause-kept c = record {
  opened = c.requires.kept.opened;
  rings = c.requires.kept.rings;
  none = λ straight. c.has_rings-self.ensures straight;
}
