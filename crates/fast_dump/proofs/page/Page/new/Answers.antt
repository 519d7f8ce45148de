use Rattle.std.proofs.Common.{[], refl}
use Rattle.fast_template.specs.meaning.Flat.{tree_of}
use Rattle.fast_rows.proofs.InRows.{are_none}
use Rattle.fast_dump.proofs.page.Page.new.Goals as goal

pub returns-clause-page : goal.returns-clause-page
returns-clause-page g c same = record {
  names = refl;
  front_names = same;
  before = [];
  rows = are_none (tree_of c.args.templates.now) 0 _ _;
  bytes_are = c.requires.0;
  place_is = c.requires.1;
}
