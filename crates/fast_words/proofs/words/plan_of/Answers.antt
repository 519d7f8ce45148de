use Rattle.std.proofs.Common.{◌∙◌, codes, ap, subst}
use Rattle.std.specs.Option.{unwrap_or}
use Rattle.clap.specs.Matches.{found_of}
use Rattle.clap.specs.Walk.{rows_of}
use Rattle.clap.proofs.WalkLemmas.{first_value-rows}
use Rattle.fast_value.specs.declared.settings.Limits.{Limits}
use Rattle.fast_words.specs.meaning.Words.{IsNumberAt}
use Rattle.fast_words.proofs.Given.{flag_read, text_or}
use Rattle.fast_words.proofs.words.plan_of.Goals as goal

pub returns : goal.returns
returns c =
    let f = found_of c.args.matches.now in
    record {
      task = c.task_named.ensures;
      templates = ap (λ s. s.now) c.unwrap_or.ensures ∙ text_or c.get_str.result _
          ∙ ap (λ o. unwrap_or o (codes "@vectors")) (c.get_str.ensures ∙ first_value-rows f (codes "templates"));
      input = c.get_str-2.ensures ∙ first_value-rows f (codes "input");
      hex = flag_read f (codes "hex") c.get_flag.result c.get_flag.ensures.none c.get_flag.ensures.value c.get_flag.ensures.other;
      strict = flag_read f (codes "strict") c.get_flag-2.result c.get_flag-2.ensures.none c.get_flag-2.ensures.value c.get_flag-2.ensures.other;
      list = flag_read f (codes "list") c.get_flag-3.result c.get_flag-3.ensures.none c.get_flag-3.ensures.value c.get_flag-3.ensures.other;
      bytes = flag_read f (codes "bytes") c.get_flag-4.result c.get_flag-4.ensures.none c.get_flag-4.ensures.value c.get_flag-4.ensures.other;
      json = flag_read f (codes "json") c.get_flag-5.result c.get_flag-5.ensures.none c.get_flag-5.ensures.value c.get_flag-5.ensures.other;
      from = c.number_or.ensures;
      limit = c.number_if.ensures;
      only = c.get_str-3.ensures ∙ first_value-rows f (codes "only");
      color = c.get_str-4.ensures ∙ first_value-rows f (codes "color");
      explain = flag_read f (codes "explain") c.get_flag-6.result c.get_flag-6.ensures.none c.get_flag-6.ensures.value c.get_flag-6.ensures.other;
      no_explain = flag_read f (codes "no-explain") c.get_flag-7.result c.get_flag-7.ensures.none c.get_flag-7.ensures.value c.get_flag-7.ensures.other;
      max_text = subst (λ (l : Limits). IsNumberAt (codes "max-text") (rows_of f) l.max_text c.number_or-2.result) c.default-limits.ensures
          c.number_or-2.ensures;
      max_elements = subst (λ (l : Limits). IsNumberAt (codes "max-elements") (rows_of f) l.max_elements c.number_or-3.result)
          c.default-limits.ensures c.number_or-3.ensures;
      max_total = subst (λ (l : Limits). IsNumberAt (codes "max-total") (rows_of f) l.max_total c.number_or-4.result)
          c.default-limits.ensures c.number_or-4.ensures;
    }
