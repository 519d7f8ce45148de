-- Texts of template sets that are refused, as statements: a text, its fault, and the template that is named.
use Rattle.std.specs.Prelude.{ℕ, List, ◌++◌, codes, Some}
use Rattle.toml.specs.Parse.{parse_document}
use Rattle.fast_notation.specs.declared.codes.StaticCode.{StaticCode}
use Rattle.fast_notation.specs.declared.codes.StaticCode.TheVariants.{S2, S3, S4, S5, C3}
use Rattle.fast_notation.specs.meaning.Firsts.{IsFirstFault}
use Rattle.fast_notation.specs.meaning.FivePasses.{IsAtFault}

-- a template A of one field
abbrev pub template_of : List ℕ → List ℕ
template_of field = codes "[[template]]\nname = 'A'\nfields = [" ++ field ++ codes "]\n"

-- The condition of the code is met at the first template of the text, and no fault that is reported before it is in the set.
abbrev pub IsRefusedText : List ℕ → StaticCode → Type 0
IsRefusedText text code = IsAtFault (parse_document text) code (Some 0) × IsFirstFault (parse_document text) code (Some 0)

-- an increment of a text; 2^32 as the initial value of a uInt32; a constant, and a mandatory default, without one
abbrev pub FaultyFields : Type 0
FaultyFields =
    IsRefusedText (template_of (codes "{kind='ascii', name='x', op='increment'}")) S2
    × IsRefusedText (template_of (codes "{kind='uInt32', name='x', op='copy', value='4294967296'}")) S3
    × IsRefusedText (template_of (codes "{kind='uInt32', name='x', op='constant'}")) S4
    × IsRefusedText (template_of (codes "{kind='uInt32', name='x', op='default'}")) S5

-- two templates that refer to each other
abbrev pub CircularTemplates : Type 0
CircularTemplates =
    IsRefusedText
    (template_of (codes "{kind='ref', name='B'}")
    ++ codes "[[template]]\nname = 'B'\nfields = [{kind='ref', name='A'}]\n") C3
