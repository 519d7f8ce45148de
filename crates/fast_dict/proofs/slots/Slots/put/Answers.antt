-- The other entries fit as before.
use Rattle.fast_dict.proofs.Slotted.{set_fits}
use Rattle.fast_dict.proofs.slots.Slots.put.Goals as goal

pub index_mut-requires : goal.index_mut-requires
index_mut-requires c = c.requires.there

pub invariant_of-self : goal.invariant_of-self
invariant_of-self c =
    let s = c.args.self.now in
    record {
      paired = s.paired;
      ordered = s.ordered;
      within = s.within;
      fitting = set_fits s.entries.items c.args.entry c.args.held s.max_text s.fitting c.requires.fits;
      small = s.small;
    }
