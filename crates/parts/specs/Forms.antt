pub mod Lex
