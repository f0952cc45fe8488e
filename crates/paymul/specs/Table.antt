-- The PAYMUL chart: the table of the guide's section 2.2 with what the segments' pages say.
use Rattle.std.specs.Prelude.{List, [], ◌∷◌, ℕ}
use Rattle.table.specs.declared.Row.{Row}
use Rattle.table.specs.Entries.{Entry, entry, outside, lines_from}

-- the rows, 'numbered from 1 in the order of 003 section 2.2'; row 0 is the message: 'such a group, opened by UNH'
unfoldable pub table : List Entry
table =
    entry "UNH" outside "M" 1 ∷  -- 0 the message
    entry "UNH" 0 "M" 1 ∷  -- 1
    entry "BGM" 0 "M" 1 ∷  -- 2
    entry "DTM" 0 "M" 1 ∷  -- 3
    entry "BUS" 0 "N" 1 ∷  -- 4
    entry "RFF" 0 "D" 2 ∷  -- 5 SG1
    entry "RFF" 5 "M" 1 ∷  -- 6
    entry "DTM" 5 "O" 1 ∷  -- 7
    entry "FII" 0 "O" 5 ∷  -- 8 SG2
    entry "FII" 8 "M" 1 ∷  -- 9
    entry "CTA" 8 "N" 1 ∷  -- 10
    entry "COM" 8 "N" 5 ∷  -- 11
    entry "NAD" 0 "O" 3 ∷  -- 12 SG3
    entry "NAD" 12 "M" 1 ∷  -- 13
    entry "CTA" 12 "O" 1 ∷  -- 14
    entry "COM" 12 "O" 5 ∷  -- 15
    entry "LIN" 0 "M" 9999 ∷  -- 16 SG4
    entry "LIN" 16 "M" 1 ∷  -- 17
    entry "DTM" 16 "R" 1 ∷  -- 18
    entry "RFF" 16 "R" 2 ∷  -- 19
    entry "BUS" 16 "D" 1 ∷  -- 20
    entry "FCA" 16 "D" 1 ∷  -- 21
    entry "MOA" 16 "R" 1 ∷  -- 22 SG5
    entry "MOA" 22 "M" 1 ∷  -- 23
    entry "CUX" 22 "D" 1 ∷  -- 24
    entry "DTM" 22 "D" 2 ∷  -- 25
    entry "RFF" 22 "D" 1 ∷  -- 26
    entry "FII" 16 "M" 1 ∷  -- 27 SG6
    entry "FII" 27 "M" 1 ∷  -- 28
    entry "CTA" 27 "N" 1 ∷  -- 29
    entry "COM" 27 "N" 5 ∷  -- 30
    entry "NAD" 16 "O" 3 ∷  -- 31 SG7
    entry "NAD" 31 "M" 1 ∷  -- 32
    entry "CTA" 31 "O" 1 ∷  -- 33
    entry "COM" 31 "O" 5 ∷  -- 34
    entry "INP" 16 "O" 1 ∷  -- 35 SG8
    entry "INP" 35 "M" 1 ∷  -- 36
    entry "FTX" 35 "O" 1 ∷  -- 37
    entry "DTM" 35 "O" 2 ∷  -- 38
    entry "GIS" 16 "D" 10 ∷  -- 39 SG9
    entry "GIS" 39 "M" 1 ∷  -- 40
    entry "MOA" 39 "O" 1 ∷  -- 41
    entry "LOC" 39 "O" 2 ∷  -- 42
    entry "NAD" 39 "O" 1 ∷  -- 43
    entry "RCS" 39 "O" 1 ∷  -- 44
    entry "FTX" 39 "O" 10 ∷  -- 45
    entry "PRC" 16 "D" 1 ∷  -- 46 SG10
    entry "PRC" 46 "M" 1 ∷  -- 47
    entry "FTX" 46 "M" 1 ∷  -- 48
    entry "SEQ" 16 "M" 9999 ∷  -- 49 SG11
    entry "SEQ" 49 "M" 1 ∷  -- 50
    entry "MOA" 49 "M" 1 ∷  -- 51
    entry "DTM" 49 "O" 1 ∷  -- 52
    entry "RFF" 49 "R" 3 ∷  -- 53
    entry "PAI" 49 "O" 1 ∷  -- 54
    entry "FCA" 49 "D" 1 ∷  -- 55
    entry "FII" 49 "D" 3 ∷  -- 56 SG12
    entry "FII" 56 "M" 1 ∷  -- 57
    entry "CTA" 56 "N" 1 ∷  -- 58
    entry "COM" 56 "N" 5 ∷  -- 59
    entry "NAD" 49 "O" 3 ∷  -- 60 SG13
    entry "NAD" 60 "M" 1 ∷  -- 61
    entry "CTA" 60 "O" 1 ∷  -- 62
    entry "COM" 60 "O" 5 ∷  -- 63
    entry "INP" 49 "O" 3 ∷  -- 64 SG14
    entry "INP" 64 "M" 1 ∷  -- 65
    entry "FTX" 64 "D" 1 ∷  -- 66
    entry "DTM" 64 "O" 2 ∷  -- 67
    entry "GIS" 49 "D" 10 ∷  -- 68 SG15
    entry "GIS" 68 "M" 1 ∷  -- 69
    entry "MOA" 68 "O" 1 ∷  -- 70
    entry "LOC" 68 "O" 2 ∷  -- 71
    entry "NAD" 68 "O" 1 ∷  -- 72
    entry "RCS" 68 "O" 1 ∷  -- 73
    entry "FTX" 68 "O" 10 ∷  -- 74
    entry "PRC" 49 "D" 1 ∷  -- 75 SG16
    entry "PRC" 75 "M" 1 ∷  -- 76
    entry "FTX" 75 "D" 5 ∷  -- 77
    entry "DOC" 75 "D" 9999 ∷  -- 78 SG17
    entry "DOC" 78 "M" 1 ∷  -- 79
    entry "MOA" 78 "O" 5 ∷  -- 80
    entry "DTM" 78 "O" 5 ∷  -- 81
    entry "RFF" 78 "O" 5 ∷  -- 82
    entry "NAD" 78 "O" 2 ∷  -- 83
    entry "CUX" 78 "O" 5 ∷  -- 84 SG18
    entry "CUX" 84 "M" 1 ∷  -- 85
    entry "DTM" 84 "O" 1 ∷  -- 86
    entry "AJT" 78 "O" 100 ∷  -- 87 SG19
    entry "AJT" 87 "M" 1 ∷  -- 88
    entry "MOA" 87 "M" 1 ∷  -- 89
    entry "RFF" 87 "O" 1 ∷  -- 90
    entry "FTX" 87 "O" 5 ∷  -- 91
    entry "DLI" 78 "O" 1000 ∷  -- 92 SG20
    entry "DLI" 92 "M" 1 ∷  -- 93
    entry "MOA" 92 "M" 5 ∷  -- 94
    entry "PIA" 92 "O" 5 ∷  -- 95
    entry "DTM" 92 "O" 5 ∷  -- 96
    entry "CUX" 92 "O" 5 ∷  -- 97 SG21
    entry "CUX" 97 "M" 1 ∷  -- 98
    entry "DTM" 97 "O" 1 ∷  -- 99
    entry "AJT" 92 "O" 10 ∷  -- 100 SG22
    entry "AJT" 100 "M" 1 ∷  -- 101
    entry "MOA" 100 "M" 1 ∷  -- 102
    entry "RFF" 100 "O" 1 ∷  -- 103
    entry "FTX" 100 "O" 5 ∷  -- 104
    entry "GIS" 75 "O" 1 ∷  -- 105 SG23
    entry "GIS" 105 "M" 1 ∷  -- 106
    entry "MOA" 105 "O" 5 ∷  -- 107
    entry "CNT" 0 "R" 5 ∷  -- 108
    entry "AUT" 0 "O" 5 ∷  -- 109 SG24
    entry "AUT" 109 "M" 1 ∷  -- 110
    entry "DTM" 109 "R" 1 ∷  -- 111
    entry "UNT" 0 "M" 1 ∷  -- 112
    []

-- its lines, as the code has them
unfoldable pub PAYMUL : List Row
PAYMUL = lines_from 0 table

-- how many rows it has, row 0 among them
abbrev pub size : ℕ
size = 113
