use Rattle.ember_expr.proofs.OneTree.{text_is_parsed, parsed_has_tree, text_has_no_syntax_fault, phrase_unique}
use Rattle.ember_expr.proofs.law.texts_have_the_tree_of_the_grammar.Goals as goal

pub returns-clause-derived : goal.returns-clause-derived
returns-clause-derived c = λ text meshes f e. parsed_has_tree text meshes f e

pub returns-clause-parsed : goal.returns-clause-parsed
returns-clause-parsed c = λ text meshes f h. text_is_parsed text meshes f h

pub returns-clause-clean : goal.returns-clause-clean
returns-clause-clean c = λ text meshes place f d e. text_has_no_syntax_fault text meshes place f d e

pub returns-clause-one : goal.returns-clause-one
returns-clause-one c = λ p ws f g d e. phrase_unique p ws f g d e
