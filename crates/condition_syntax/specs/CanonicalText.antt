-- The canonical text of expressions and conditions.
use Rattle.std.specs.Prelude.{ℕ, pos, unsigned_abs, int_lt, List, [], ◌∷◌, ◌++◌, flat_map, Bool, true, false, ◌==◌, ◌&&◌, ◌||◌, if◌then◌else◌, codes, Option, None, Some}
use Rattle.std.specs.Fmt.{decimal}
use Rattle.weighing.specs.declared.scales.Num.{Num}
use Rattle.weighing.specs.declared.weighings.Rel5.{Rel5}
use Rattle.weighing.specs.declared.weighings.Rel5.TheVariants.{AtMost, Below, AtLeast, Above, Equal}
use Rattle.condition_syntax.specs.declared.expressions.Name.{Name}
use Rattle.condition_syntax.specs.declared.expressions.ETerm.{ETerm}
use Rattle.condition_syntax.specs.Trees.{Condition, always, never, leaf, compares, delayed, opposite, end_of_all, all_of, end_of_any, any_of}

-- ---- expressions

-- a denominator of 1 isn't printed
abbrev pub denominator_text : ℕ → List ℕ
denominator_text d = if d == 1 then [] else 47 ∷ decimal d

-- a number without its sign
unfoldable pub number_text : Num → List ℕ
number_text q = decimal (unsigned_abs q.num) ++ denominator_text (unsigned_abs q.den)

-- digits behind their sign, if there are any
abbrev pub mark_text : ℕ → Option ℕ → List ℕ
mark_text mark None = []
mark_text mark (Some n) = mark ∷ decimal n

unfoldable pub name_text : Name → List ℕ
name_text x = x.text ++ (mark_text 46 x.flow ++ mark_text 64 x.step)

-- kept as 1/1 or -1/1
abbrev pub is_unit : Num → Bool
is_unit q = (unsigned_abs q.num == 1) && (unsigned_abs q.den == 1)

-- a term without its sign; once a name is the name
abbrev pub factor_text : Num → Option Name → List ℕ
factor_text q None = number_text q
factor_text q (Some x) = if is_unit q then name_text x else number_text q ++ (codes " * " ++ name_text x)

abbrev pub unsigned_text : ETerm → List ℕ
unsigned_text t = factor_text t.coef t.name

abbrev pub is_negative : ETerm → Bool
is_negative t = int_lt t.coef.num (pos 0)

-- the sign of the first term stands without a space
unfoldable pub first_text : ETerm → List ℕ
first_text t = (if is_negative t then codes "-" else []) ++ unsigned_text t

unfoldable pub later_text : ETerm → List ℕ
later_text t = (if is_negative t then codes " - " else codes " + ") ++ unsigned_text t

unfoldable pub expr_text : List ETerm → List ℕ
expr_text [] = []
expr_text (t ∷ ts) = first_text t ++ flat_map later_text ts

-- ---- conditions

abbrev pub rel_text : Rel5 → List ℕ
rel_text AtMost = codes " <= "
rel_text Below = codes " < "
rel_text AtLeast = codes " >= "
rel_text Above = codes " > "
rel_text Equal = codes " == "

unfoldable pub is_conjunction : Condition → Bool
is_conjunction end_of_all = true
is_conjunction (all_of c rest) = true
is_conjunction _ = false

unfoldable pub is_disjunction : Condition → Bool
is_disjunction end_of_any = true
is_disjunction (any_of c rest) = true
is_disjunction _ = false

abbrev pub is_end : Condition → Bool
is_end end_of_all = true
is_end end_of_any = true
is_end _ = false

abbrev pub bracketed_if : Bool → List ℕ → List ℕ
bracketed_if false text = text
bracketed_if true text = codes "(" ++ (text ++ codes ")")

-- what stands behind a part: the joint and the others, if there are any
abbrev pub others_if : Bool → List ℕ → List ℕ → List ℕ
others_if true joint text = []
others_if false joint text = joint ++ text

-- brackets stand round an And or Or inside Not, round an And or Or inside And and round an Or inside Or, and round nothing else
unfoldable pub condition_text : Condition → List ℕ
condition_text always = codes "true"
condition_text never = codes "false"
condition_text (leaf (compares left rel right)) = expr_text left.terms ++ (rel_text rel ++ expr_text right.terms)
condition_text (leaf (delayed q)) = codes "delay >= " ++ number_text q
condition_text (opposite c) = codes "not " ++ bracketed_if (is_conjunction c || is_disjunction c) (condition_text c)
condition_text end_of_all = []
condition_text (all_of c rest) = bracketed_if (is_conjunction c || is_disjunction c) (condition_text c) ++ others_if (is_end rest) (codes " and ") (condition_text rest)
condition_text end_of_any = []
condition_text (any_of c rest) = bracketed_if (is_disjunction c) (condition_text c) ++ others_if (is_end rest) (codes " or ") (condition_text rest)
