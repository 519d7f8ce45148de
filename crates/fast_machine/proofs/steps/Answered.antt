-- What is said of an answer, if there is one, said in another way.
use Rattle.std.specs.Prelude.{Option, Some, None, IfSome}

pub some_as : {A : Type 0} {P Q : A → Type 0} (r : Option A) → ((x : A) → P x → Q x) → IfSome r P → IfSome r Q
some_as None f h = h
some_as (Some x) f h = f x h

pub some_both : {A : Type 0} {P Q R : A → Type 0} (r : Option A) → ((x : A) → P x → Q x → R x) → IfSome r P → IfSome r Q → IfSome r R
some_both None f h i = h
some_both (Some x) f h i = f x h i
