use Rattle.std.proofs.Common.{sym, ap, ◌∙◌, if◌then◌else◌, ℕ, Bool}
use Rattle.fast_c.specs.meaning.Decoders.{told_cut, cut_off}
use Rattle.fast_c.proofs.decoding.feed_packet.Goals as goal

pub returns-then-ends_inside : goal.returns-then-ends_inside
returns-then-ends_inside c =
    let fed = c.feed-fed.result in let next = c.feed-fed.new.decoding in let inside = sym (sym c.ends_inside.ensures ∙ c.if-ends_inside.true) in
    record {
      start = c.start.new.decoding;
      starts = c.start.ensures;
      bytes = fed;
      next = next;
      feeds = c.feed-fed.ensures;
      told = ap (λ (status : ℕ). record {
        taken = fed.taken;
        records = fed.records;
        texts = fed.texts;
        consumed = fed.consumed;
        between = fed.between;
        status = status;
      }) c.number.ensures ∙ ap (λ (b : Bool). if b then told_cut fed else fed) inside;
      left = ap (λ (b : Bool). if b then cut_off next else next) inside;
    }

pub returns : goal.returns
returns c =
    let fed = c.feed-fed.result in let next = c.feed-fed.new.decoding in let inside = sym (sym c.ends_inside.ensures ∙ c.if-ends_inside.false) in
    record {
      start = c.start.new.decoding;
      starts = c.start.ensures;
      bytes = fed;
      next = next;
      feeds = c.feed-fed.ensures;
      told = ap (λ (b : Bool). if b then told_cut fed else fed) inside;
      left = ap (λ (b : Bool). if b then cut_off next else next) inside;
    }
