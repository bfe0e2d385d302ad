-- The result of reading the file of a program.
use Rattle.std.proofs.Common.{◌≡◌, ◌<◌, arith, ℕ, List, length, replicate, Option, Some, None, Ok, Err, refl, sym, ap, subst}
use Rattle.std.proofs.lemmas.List.{length-replicate}
use Rattle.std.specs.Prelude.{IfSome, Result}
use Rattle.spl_value.specs.Script.{Script}
use Rattle.spl_tree.specs.declared.token.LexicalError.TheVariants.{TooLong}
use Rattle.feed_pour.specs.Contents.{Told}
use Rattle.feed_pour.specs.Named.{FetchedOf}
use Rattle.feed_pour.specs.declared.named.Fetched.TheVariants as F
use Rattle.language_model.specs.declared.refusal.Refusal.{Refusal}
use Rattle.language_model.specs.declared.refusal.Code.TheVariants as C
use Rattle.language_model.specs.Refusals.{refusal_by}
use Rattle.language_model.specs.Accepted.{IsAccepted, no_tokens, too_deep, unexpected, no_graph, checks}
use Rattle.language_model.specs.CheckedGraph.{CheckedGraph}
use Rattle.language_model.specs.Checking.{checked}
use Rattle.language_model.specs.Files.{OwnFiles}
use Rattle.check_laws.specs.OwnFilesLaw.{OwnFilesLaw}
use Rattle.spl_driver.specs.AcceptedLaws.{TooLongLaw}
use Rattle.spl_driver.specs.Compiled.{IsCompiled}
use Rattle.spl_driver.specs.declared.compile_answer.CompileAnswer.{CompileAnswer}
use Rattle.spl_driver.specs.declared.compile_answer.CompileAnswer.TheVariants as N
use Rattle.spl_driver.specs.steps.Steps.{CompiledAt}
use Rattle.spl_driver.specs.declared.compiled.Compiled.TheVariants as P
use Rattle.spl_driver.proofs.Fetching.{no_fault, long_fault}
use Rattle.spl_driver.proofs.OneAccepted.{found_is}

pub compiled_long : (told : Option Told) (program : List ℕ) (names : List (List ℕ)) (refusal : Refusal) → TooLongLaw
    → IfSome told (λ t. FetchedOf (t.script program) F.TooLong 1048576) → refusal ≡ refusal_by (C.Lexical TooLong) 1048576
    → IfSome told (λ t. CompiledAt (P.Refused refusal) (t.script program) names)
compiled_long None program names refusal law h is = tt
compiled_long (Some t) program names refusal law h is =
    subst (λ (r : Refusal). CompiledAt (P.Refused r) (t.script program) names) (sym is) (long_fault 1048576 (t.script program) h, law (t.script program).bytes names h)

long_by : (n : ℕ) (names : List (List ℕ)) → 1048576 < n → TooLongLaw → (bytes : List ℕ) × IsAccepted bytes names (Err (refusal_by (C.Lexical TooLong) 1048576))
long_by n names more law =
    let zeros : List ℕ = replicate n 0 in
    let long : length zeros ≡ n = length-replicate n 0 in
    (zeros, law zeros names (omega (arith, more, long)))

-- some program has this refusal
pub some_long : (names : List (List ℕ)) (refusal : Refusal) → TooLongLaw → refusal ≡ refusal_by (C.Lexical TooLong) 1048576 → (bytes : List ℕ) × IsAccepted bytes names (Err refusal)
some_long names refusal law is = subst (λ (r : Refusal). (bytes : List ℕ) × IsAccepted bytes names (Err r)) (sym is) (long_by 1048577 names (omega arith) law)

-- the refusal of the bytes of a program
pub refused_bytes : (bytes : List ℕ) (names : List (List ℕ)) (answer : CompileAnswer) (refusal : Refusal) → answer ≡ N.Refused refusal → IsCompiled bytes names (Err answer)
    → (bs : List ℕ) × IsAccepted bs names (Err refusal)
refused_bytes bytes names answer refusal is h = (bytes, subst (λ (a : CompileAnswer). IsCompiled bytes names (Err a)) is h)

bytes_read : (s : Script) (bytes : List ℕ) → FetchedOf s (F.Whole bytes) 1048576 → bytes ≡ s.bytes
bytes_read s bytes h = sym (ap (λ (x : Script). x.bytes) h.0)

pub compiled_whole : (told : Option Told) (program bytes : List ℕ) (names : List (List ℕ)) (c : CheckedGraph)
    → IfSome told (λ t. FetchedOf (t.script program) (F.Whole bytes) 1048576) → IsCompiled bytes names (Ok c)
    → IfSome told (λ t. CompiledAt (P.Checked c) (t.script program) names)
compiled_whole None program bytes names c h is = tt
compiled_whole (Some t) program bytes names c h is =
    (no_fault 1048576 (t.script program) bytes h, subst (λ (bs : List ℕ). IsAccepted bs names (Ok c)) (bytes_read (t.script program) bytes h) is)

pub refused_whole : (told : Option Told) (program bytes : List ℕ) (names : List (List ℕ)) (refusal : Refusal)
    → IfSome told (λ t. FetchedOf (t.script program) (F.Whole bytes) 1048576) → IsCompiled bytes names (Err (N.Refused refusal))
    → IfSome told (λ t. CompiledAt (P.Refused refusal) (t.script program) names)
refused_whole None program bytes names refusal h is = tt
refused_whole (Some t) program bytes names refusal h is =
    (no_fault 1048576 (t.script program) bytes h, subst (λ (bs : List ℕ). IsAccepted bs names (Err refusal)) (bytes_read (t.script program) bytes h) is)

files_by : (bytes : List ℕ) (names : List (List ℕ)) (r : Result CheckedGraph Refusal) (c : CheckedGraph) → OwnFilesLaw → IsAccepted bytes names r
    → r ≡ Ok c → OwnFiles names c.parts
files_by bytes names _ c law (no_tokens error at is) e = cc
files_by bytes names _ c law (too_deep ts at is deep) e = cc
files_by bytes names _ c law (unexpected ts at is found) e = cc
files_by bytes names _ c law (no_graph ts unit refusal is spells flat) e = cc
files_by bytes names _ c law (checks ts unit g is spells flat) e = law unit names g c flat (found_is (checked unit g) c e)

-- the sinks of a compiled program have files of their own
pub own_files : (bytes : List ℕ) (names : List (List ℕ)) (c : CheckedGraph) → OwnFilesLaw → IsCompiled bytes names (Ok c) → OwnFiles names c.parts
own_files bytes names c law is = files_by bytes names (Ok c) c law is refl
