-- What a plan asks for.
use Rattle.fast_value.specs.declared.settings.Limits.{Limits}
use Rattle.fast_words.specs.declared.plans.Plan.{Plan}

-- the mode and the limits
abbrev pub limits_of : Plan → Limits
limits_of p = record { strict = p.strict; max_text = p.max_text; max_elements = p.max_elements; max_total = p.max_total }
